use Rattle.std.proofs.Common.{◌-◌}
use Rattle.psg_comments.proofs.Filling.{IsFilledTo}
use Rattle.psg_comments.proofs.blanking.fill.Given as goal

abbrev pub invariant-loop-at : goal.invariant-loop-at
invariant-loop-at l = IsFilledTo l.comment l.at l.initial.bytes l.bytes

abbrev pub decreases-loop-at : goal.decreases-loop-at
decreases-loop-at l = l.comment.end - l.at
