use Rattle.std.proofs.Common.{◌≡◌, ◌+◌, drop}
use Rattle.std.specs.List.{prefix_len}
use Rattle.psg_keys.specs.Lines.{is_mark}
use Rattle.psg_keys.proofs.line.marks.Given as goal

abbrev pub invariant-loop-place : goal.invariant-loop-place
invariant-loop-place l = prefix_len is_mark l.chars ≡ l.place + prefix_len is_mark (drop l.place l.chars)
