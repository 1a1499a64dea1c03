use Rattle.std.proofs.Common.{length}
use Rattle.psg_server.proofs.DocumentLaws.{AreOthers}
use Rattle.psg_server.proofs.documents.take_out.Given as goal

abbrev pub decreases-rest : goal.decreases-rest
decreases-rest l = length l.items.items

abbrev pub invariant-rest : goal.invariant-rest
invariant-rest l = AreOthers l.address l.fn.items.items l.items.items
