use Rattle.psg_ranges.proofs.Finds.{AreLeft}
use Rattle.psg_ranges.proofs.finding.from_nth.Given as goal

abbrev pub invariant-nodes : goal.invariant-nodes
invariant-nodes l = AreLeft l.ranges l.number l.rest l.left

abbrev pub decreases-nodes : goal.decreases-nodes
decreases-nodes l = l.left
