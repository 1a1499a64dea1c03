use Rattle.std.proofs.Common.{take}
use Rattle.psg_unify.specs.ReadOut.{AreWritten}
use Rattle.psg_unify.proofs.reading.written_row.Given as goal

abbrev pub invariant-loop-k : goal.invariant-loop-k
invariant-loop-k l = AreWritten l.written (take l.k l.cells) l.terms.items
