use Rattle.std.proofs.Common.{◌≡◌, ◌+◌, ◌-◌, ◌^◌, ◌≤◌, min, length}
use Rattle.std.specs.List.{count_by}
use Rattle.psg_picture.specs.Scrolling.{is_feed}
use Rattle.psg_picture.proofs.scrolling.feeds.Given as goal

abbrev pub decreases-bytes : goal.decreases-bytes
decreases-bytes l = length l.rest

abbrev pub invariant-bytes : goal.invariant-bytes
invariant-bytes l = record {
  same : min (l.line + count_by is_feed l.rest) (2 ^ 32 - 1) ≡ min (count_by is_feed l.bytes) (2 ^ 32 - 1);
  within : l.line ≤ 2 ^ 32 - 1;
}
