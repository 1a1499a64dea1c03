use Rattle.std.proofs.Common.{◌≡◌, List, Option}
use Rattle.psg_explain.specs.declared.refutation.Reason.{Reason}
use Rattle.psg_explain.specs.Equations.{Equation}
use Rattle.psg_explain.specs.Solutions.{Binding, Extends, IsWithin, IsWork, Solving, tasks_of, weigh}
use Rattle.psg_explain.proofs.solver.next.Given as goal

abbrev pub invariant-loop-task : goal.invariant-loop-task
invariant-loop-task l = record {
  solving : (bs : List Binding) (r : Option Reason) → Solving (tasks_of l.work) bs r → Solving (tasks_of l.fn.work) bs r;
  stays : (given : List Equation) → IsWork given l.fn.work → IsWork given l.work;
  within : IsWithin (tasks_of l.fn.work) (tasks_of l.work);
  extends : Extends l.fn.work.derived.all.items l.work.derived.all.items;
  failure : l.work.failure ≡ l.fn.work.failure;
}

abbrev pub decreases-loop-task : goal.decreases-loop-task
decreases-loop-task l = weigh (tasks_of l.work)
