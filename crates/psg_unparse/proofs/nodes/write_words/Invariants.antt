use Rattle.std.proofs.Common.{length}
use Rattle.psg_unparse.proofs.Items.{AreLeft}
use Rattle.psg_unparse.proofs.nodes.write_words.Given as goal

abbrev pub invariant-loop-item : goal.invariant-loop-item
invariant-loop-item l = AreLeft l.items l.rest l.fn.writer l.writer

abbrev pub decreases-loop-item : goal.decreases-loop-item
decreases-loop-item l = length l.rest
