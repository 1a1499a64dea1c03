use Rattle.std.proofs.Common.{◌-◌, ◌≤◌, length}
use Rattle.psg_deflines.specs.Parts.{texts}
use Rattle.psg_deflines.proofs.TailLaws.{AreTermsTo}
use Rattle.psg_deflines.proofs.tails.terms.Given as goal

abbrev pub invariant-terms : goal.invariant-terms
invariant-terms l = (l.taken ≤ length l.parts) × (l.count ≤ l.most) × AreTermsTo l.most (texts l.parts) l.terms l.count l.taken

abbrev pub decreases-terms : goal.decreases-terms
decreases-terms l = l.most - l.count
