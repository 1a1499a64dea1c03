use Rattle.std.proofs.Common.{◌≡◌, ◌+◌, ◌-◌, ◌≤◌, length, drop}
use Rattle.psg_prompt.specs.Completing.{common}
use Rattle.psg_prompt.proofs.completing.common.Given as goal

abbrev pub invariant-same : goal.invariant-same
invariant-same l = record {
  same : common l.one l.other ≡ l.count + common (drop l.count l.one) (drop l.count l.other);
  one : l.count ≤ length l.one;
  other : l.count ≤ length l.other;
}

abbrev pub decreases-same : goal.decreases-same
decreases-same l = length l.one - l.count
