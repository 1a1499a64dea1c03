use Rattle.std.proofs.Common.{◌≡◌, length}
use Rattle.psg_picture.specs.Scrolling.{after_feed}
use Rattle.psg_picture.proofs.scrolling.after_feed.Given as goal

abbrev pub decreases-bytes : goal.decreases-bytes
decreases-bytes l = length l.front

abbrev pub invariant-bytes : goal.invariant-bytes
invariant-bytes l = after_feed l.bytes ≡ after_feed l.front
