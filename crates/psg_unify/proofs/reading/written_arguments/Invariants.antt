use Rattle.std.proofs.Common.{take}
use Rattle.psg_pool.specs.Cells.{arguments_of}
use Rattle.psg_unify.specs.ReadOut.{AreWritten}
use Rattle.psg_unify.proofs.reading.written_arguments.Given as goal

abbrev pub invariant-loop-k : goal.invariant-loop-k
invariant-loop-k l = AreWritten l.written (take l.k (arguments_of l.pool.cells l.id)) l.terms.items
