use Rattle.std.proofs.Common.{◌≡◌, ◌+◌, drop}
use Rattle.std.specs.List.{prefix_len}
use Rattle.psg_prompt.specs.Completing.{is_space}
use Rattle.psg_prompt.proofs.completing.spaces.Given as goal

abbrev pub invariant-loop-place : goal.invariant-loop-place
invariant-loop-place l = prefix_len is_space l.text ≡ l.place + prefix_len is_space (drop l.place l.text)
