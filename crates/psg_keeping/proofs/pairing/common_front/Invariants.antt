use Rattle.std.proofs.Common.{◌≡◌, ◌≤◌, ◌-◌, length, take}
use Rattle.psg_keeping.proofs.pairing.common_front.Given as goal

abbrev pub invariant-same : goal.invariant-same
invariant-same l = (take l.count l.old ≡ take l.count l.new) × (l.count ≤ length l.old) × (l.count ≤ length l.new)

abbrev pub decreases-same : goal.decreases-same
decreases-same l = length l.old - l.count
