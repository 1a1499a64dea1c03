use Rattle.std.proofs.Common.{◌-◌, length}
use Rattle.psg_server.proofs.EditLaws.{IsBack}
use Rattle.psg_server.proofs.edits.same_back.Given as goal

abbrev pub decreases-back : goal.decreases-back
decreases-back l = length l.text - l.size

abbrev pub invariant-back : goal.invariant-back
invariant-back l = IsBack l.text l.wanted l.from l.size l.tail
