use Rattle.std.proofs.Common.{◌-◌, length}
use Rattle.psg_documents.proofs.StartLaws.{AreStartsTo}
use Rattle.psg_documents.proofs.lines.starts_of.Given as goal

abbrev pub invariant-bytes : goal.invariant-bytes
invariant-bytes l = AreStartsTo l.text l.starts.items l.place

abbrev pub decreases-bytes : goal.decreases-bytes
decreases-bytes l = length l.text - l.place
