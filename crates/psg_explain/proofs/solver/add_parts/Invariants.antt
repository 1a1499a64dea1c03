use Rattle.std.proofs.Common.{◌≡◌, ◌≤◌, ◌++◌, List, drop, length, min}
use Rattle.psg_explain.specs.Equations.{Equation}
use Rattle.psg_explain.specs.Reasons.{paired}
use Rattle.psg_explain.specs.Solutions.{Extends, HasArguments, IsWork, tasks_of}
use Rattle.psg_explain.proofs.solver.add_parts.Given as goal

abbrev pub invariant-loop-place : goal.invariant-loop-place
invariant-loop-place l = record {
  bounded : l.place ≤ min (length l.left) (length l.right);
  tasks : tasks_of l.work ≡ drop l.place (paired l.left l.right) ++ tasks_of l.fn.work;
  stays : (given : List Equation) → IsWork given l.fn.work → HasArguments l.fn.work.derived.all.items l.number l.left l.right → IsWork given l.work;
  extends : Extends l.fn.work.derived.all.items l.work.derived.all.items;
  failure : l.work.failure ≡ l.fn.work.failure;
}

abbrev pub decreases-loop-place : goal.decreases-loop-place
decreases-loop-place l = l.place
