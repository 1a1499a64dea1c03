use Rattle.std.proofs.Common.{◌≡◌, ◌+◌, drop}
use Rattle.std.specs.List.{prefix_len}
use Rattle.psg_picture.specs.Scrolling.{is_other}
use Rattle.psg_picture.proofs.scrolling.others.Given as goal

abbrev pub invariant-loop-place : goal.invariant-loop-place
invariant-loop-place l = prefix_len is_other l.bytes ≡ l.place + prefix_len is_other (drop l.place l.bytes)
