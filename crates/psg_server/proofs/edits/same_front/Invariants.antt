use Rattle.std.proofs.Common.{◌-◌, length}
use Rattle.psg_server.proofs.EditLaws.{IsSame}
use Rattle.psg_server.proofs.edits.same_front.Given as goal

abbrev pub decreases-same : goal.decreases-same
decreases-same l = length l.text - l.place

abbrev pub invariant-same : goal.invariant-same
invariant-same l = IsSame l.text l.wanted l.start l.place
