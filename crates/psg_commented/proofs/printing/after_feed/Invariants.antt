use Rattle.std.proofs.Common.{◌≡◌, ◌≤◌, length}
use Rattle.psg_commented.specs.Printing.{after_feed}
use Rattle.psg_commented.proofs.printing.after_feed.Given as goal

abbrev pub decreases-bytes : goal.decreases-bytes
decreases-bytes l = length l.front

abbrev pub invariant-bytes : goal.invariant-bytes
invariant-bytes l = (after_feed l.bytes ≡ after_feed l.front) × (length l.front ≤ length l.bytes)
