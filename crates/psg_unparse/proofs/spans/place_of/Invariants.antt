use Rattle.std.proofs.Common.{◌≤◌, ◌-◌, length}
use Rattle.psg_unparse.specs.Places.{IsBetween}
use Rattle.psg_unparse.proofs.spans.place_of.Given as goal

abbrev pub invariant-halving : goal.invariant-halving
invariant-halving l = (l.high ≤ length l.spans) × IsBetween l.spans l.path l.low l.high

abbrev pub decreases-halving : goal.decreases-halving
decreases-halving l = l.high - l.low
