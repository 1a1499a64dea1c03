use Rattle.std.proofs.Common.{reverse}
use Rattle.psg_unify.specs.Circles.{IsWalking, unseen}
use Rattle.psg_unify.proofs.circles.walk.Given as goal

abbrev pub invariant-loop-id : goal.invariant-loop-id
invariant-loop-id l = IsWalking l.pool l.base l.marks.items (reverse l.stack.items)

abbrev pub decreases-loop-id : goal.decreases-loop-id
decreases-loop-id l = unseen l.marks.items
