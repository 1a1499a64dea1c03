use Rattle.std.proofs.Common.{length}
use Rattle.psg_places.proofs.WayLaws.{IsBackTo}
use Rattle.psg_places.proofs.ways.path_back.Given as goal

abbrev pub decreases-steps : goal.decreases-steps
decreases-steps l = length l.left

abbrev pub invariant-steps : goal.invariant-steps
invariant-steps l = IsBackTo l.opened l.path l.at.items l.left
