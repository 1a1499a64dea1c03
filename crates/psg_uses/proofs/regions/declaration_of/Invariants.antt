use Rattle.std.proofs.Common.{◌≡◌, ◌≤◌, length}
use Rattle.psg_uses.specs.Regions.{declaration_of}
use Rattle.psg_uses.proofs.RegionLaws.{from_here}
use Rattle.psg_uses.proofs.regions.declaration_of.Given as goal

abbrev pub invariant-regions : goal.invariant-regions
invariant-regions l = (l.left ≤ length l.name.path)
    × (from_here l.definition l.tree l.name.path l.name l.left ≡ declaration_of l.definition l.tree l.name)

abbrev pub decreases-regions : goal.decreases-regions
decreases-regions l = l.left
