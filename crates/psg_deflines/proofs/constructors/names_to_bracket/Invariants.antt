use Rattle.std.proofs.Common.{◌-◌, ◌≤◌, length, drop}
use Rattle.psg_deflines.specs.Parts.{texts}
use Rattle.psg_deflines.specs.TermWalks.{Parts}
use Rattle.psg_deflines.proofs.Stages.{IsReadTo}
use Rattle.psg_deflines.proofs.ConstructorLaws.{AreNames}
use Rattle.psg_deflines.proofs.constructors.names_to_bracket.Given as goal

abbrev pub invariant-names : goal.invariant-names
invariant-names l = (l.taken ≤ length l.parts) × ((rest : Parts) → IsReadTo (AreNames rest) (texts l.parts) l.names.items (drop l.taken (texts l.parts)))

abbrev pub decreases-names : goal.decreases-names
decreases-names l = length l.parts - l.taken
