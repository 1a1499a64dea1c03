use Rattle.std.proofs.Common.{Some, length}
use Rattle.psg_layout.proofs.WordLaws.{AreWordsLeft}
use Rattle.psg_layout.proofs.writing.write_words.Given as goal

abbrev pub invariant-loop-item : goal.invariant-loop-item
invariant-loop-item l = AreWordsLeft l.rules l.mode.spaces (Some l.mode.op) l.number l.items l.rest l.next l.fn.sheet l.sheet

abbrev pub decreases-loop-item : goal.decreases-loop-item
decreases-loop-item l = length l.rest
