use Rattle.std.proofs.Common.{take}
use Rattle.psg_comments.specs.Blanking.{AreSpaces}
use Rattle.psg_comments.proofs.blanking.spaced.Given as goal

abbrev pub invariant-loop-comment : goal.invariant-loop-comment
invariant-loop-comment l = AreSpaces l.text (take l.comment-index l.comments) l.bytes.items
