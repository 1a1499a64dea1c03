use Rattle.std.proofs.Common.{reverse, length}
use Rattle.psg_unify.specs.Climbing.{IsGoing}
use Rattle.psg_unify.proofs.SolvingSteps.{IsUnder}
use Rattle.psg_unify.proofs.solving.next_apart.Given as goal

abbrev pub invariant-loop-pair : goal.invariant-loop-pair
invariant-loop-pair l =
    IsUnder l.pool l.pool l.classes l.classes (reverse l.fn.left.items) (reverse l.left.items)
    × IsGoing l.pool l.classes (reverse l.left.items)

abbrev pub decreases-loop-pair : goal.decreases-loop-pair
decreases-loop-pair l = length l.left.items
