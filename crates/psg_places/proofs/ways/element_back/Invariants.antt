use Rattle.std.proofs.Common.{◌+◌, ◌-◌, length}
use Rattle.psg_places.proofs.WayLaws.{IsTried}
use Rattle.psg_places.proofs.ways.element_back.Given as goal

abbrev pub decreases-counts : goal.decreases-counts
decreases-counts l = (l.step + length l.opened) - l.back

abbrev pub invariant-counts : goal.invariant-counts
invariant-counts l = IsTried l.opened l.at l.step l.back l.next
