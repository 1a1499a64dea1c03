use Rattle.std.proofs.Common.{reverse}
use Rattle.psg_unify.specs.Climbing.{IsGoing, ends}
use Rattle.psg_unify.proofs.SolvingSteps.{IsUnder}
use Rattle.psg_unify.proofs.solving.solve.Given as goal

abbrev pub invariant-loop-pair : goal.invariant-loop-pair
invariant-loop-pair l =
    IsUnder l.fn.pool l.pool l.fn.classes l.classes (reverse l.fn.left.items) (reverse l.left.items)
    × IsGoing l.pool l.classes (reverse l.left.items)

abbrev pub decreases-loop-pair : goal.decreases-loop-pair
decreases-loop-pair l = ends l.pool l.classes
