use Rattle.std.proofs.Common.{length}
use Rattle.psg_ranges.proofs.Finds.{IsAt}
use Rattle.psg_ranges.proofs.ranges.Ranges.at.Given as goal

abbrev pub invariant-loop-step : goal.invariant-loop-step
invariant-loop-step l = IsAt l.self.nodes l.path l.rest l.steps

abbrev pub decreases-loop-step : goal.decreases-loop-step
decreases-loop-step l = length l.steps
