use Rattle.std.proofs.Common.{length}
use Rattle.psg_pointing.proofs.Walks.{IsLooking}
use Rattle.psg_pointing.proofs.pointing.last_on.Given as goal

abbrev pub invariant-nodes : goal.invariant-nodes
invariant-nodes l = IsLooking l.tokens l.byte l.ranges l.next l.found

abbrev pub decreases-nodes : goal.decreases-nodes
decreases-nodes l = length l.next.ranges.now
