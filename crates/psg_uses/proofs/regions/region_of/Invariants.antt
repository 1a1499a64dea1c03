use Rattle.std.proofs.Common.{◌≡◌, ◌≤◌, length}
use Rattle.psg_uses.specs.Regions.{region_of}
use Rattle.psg_uses.proofs.RegionLaws.{region_from}
use Rattle.psg_uses.proofs.regions.region_of.Given as goal

abbrev pub invariant-regions : goal.invariant-regions
invariant-regions l = (l.left ≤ length l.path)
    × (region_from l.definition l.tree l.path l.left ≡ region_of l.definition l.tree l.path)

abbrev pub decreases-regions : goal.decreases-regions
decreases-regions l = l.left
