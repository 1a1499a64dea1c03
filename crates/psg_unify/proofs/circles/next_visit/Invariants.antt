use Rattle.std.proofs.Common.{◌≤◌, reverse, length}
use Rattle.psg_unify.specs.Circles.{StaysWalking, unseen}
use Rattle.psg_unify.proofs.circles.next_visit.Given as goal

abbrev pub invariant-loop-item : goal.invariant-loop-item
invariant-loop-item l =
    StaysWalking l.base l.fn.marks.items l.marks.items (reverse l.fn.stack.items) (reverse l.stack.items)
    × (unseen l.marks.items ≤ unseen l.fn.marks.items)

abbrev pub decreases-loop-item : goal.decreases-loop-item
decreases-loop-item l = length l.stack.items
