use Rattle.std.proofs.Common.{◌≡◌, ◌≤◌, take}
use Rattle.psg_deflines.specs.Refusals.{line_feeds}
use Rattle.psg_deflines.proofs.reading.line_feeds.Given as goal

abbrev pub invariant-loop-c : goal.invariant-loop-c
invariant-loop-c l = (l.feeds ≡ line_feeds (take l.c-index l.bytes)) × (l.feeds ≤ l.c-index)
