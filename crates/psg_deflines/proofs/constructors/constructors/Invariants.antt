use Rattle.std.proofs.Common.{◌-◌, ◌≤◌, length, drop}
use Rattle.psg_deflines.specs.Parts.{texts}
use Rattle.psg_deflines.specs.FormReads.{AreCons}
use Rattle.psg_deflines.proofs.Stages.{IsReadTo}
use Rattle.psg_deflines.proofs.constructors.constructors.Given as goal

abbrev pub invariant-constructors : goal.invariant-constructors
invariant-constructors l = (l.taken ≤ length l.parts) × IsReadTo AreCons (texts l.parts) l.constructors.items (drop l.taken (texts l.parts))

abbrev pub decreases-constructors : goal.decreases-constructors
decreases-constructors l = length l.parts - l.taken
