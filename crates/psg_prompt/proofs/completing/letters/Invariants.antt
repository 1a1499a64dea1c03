use Rattle.std.proofs.Common.{◌≡◌, ◌+◌, drop}
use Rattle.std.specs.List.{prefix_len}
use Rattle.psg_prompt.specs.Completing.{is_letter}
use Rattle.psg_prompt.proofs.completing.letters.Given as goal

abbrev pub invariant-loop-place : goal.invariant-loop-place
invariant-loop-place l = prefix_len is_letter l.text ≡ l.place + prefix_len is_letter (drop l.place l.text)
