use Rattle.std.proofs.Common.{length}
use Rattle.psg_pointing.proofs.Walks.{IsOnWay}
use Rattle.psg_pointing.proofs.pointing.way.Given as goal

abbrev pub invariant-levels : goal.invariant-levels
invariant-levels l = IsOnWay l.tokens l.byte l.ranges l.rest l.steps.items

abbrev pub decreases-levels : goal.decreases-levels
decreases-levels l = length l.rest
