use Rattle.std.proofs.Common.{◌≡◌, ◌≤◌, ◌-◌, length}
use Rattle.psg_keeping.specs.Rows.{end_of}
use Rattle.psg_keeping.proofs.pairing.common_back.Given as goal

abbrev pub invariant-same : goal.invariant-same
invariant-same l = (end_of l.count l.old ≡ end_of l.count l.new) × (l.count ≤ length l.old) × (l.count ≤ length l.new)

abbrev pub decreases-same : goal.decreases-same
decreases-same l = length l.old - l.count
