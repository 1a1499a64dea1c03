use Rattle.std.proofs.Common.{◌≡◌, ◌+◌, take}
use Rattle.psg_deflines.specs.Refusals.{line_feeds}
use Rattle.psg_layout.proofs.reading.line_after.Given as goal

abbrev pub invariant-loop-byte : goal.invariant-loop-byte
invariant-loop-byte l = l.line ≡ line_feeds (take l.byte-index l.bytes) + 1
