use Rattle.std.proofs.Common.{◌≡◌, ◌++◌, List, Option, None}
use Rattle.psg_explain.specs.declared.refutation.Reason.{Reason}
use Rattle.psg_explain.specs.Solutions.{AreBindings, Binding, count_in, IsWork, Solving, tasks_of}
use Rattle.psg_explain.proofs.solver.derive.Given as goal

abbrev pub invariant-loop-bindings : goal.invariant-loop-bindings
invariant-loop-bindings l =
    (done : List Binding)
    × ((bs : List Binding) (r : Option Reason) → Solving (tasks_of l.work) bs r → Solving l.given (done ++ bs) r)
    × AreBindings l.work.derived.all.items l.bindings.items done
    × IsWork l.given l.work × (l.work.failure ≡ None)

abbrev pub decreases-loop-bindings : goal.decreases-loop-bindings
decreases-loop-bindings l = count_in (tasks_of l.work)
