use Rattle.std.proofs.Common.{◌≡◌, ◌++◌, drop, string_bytes}
use Rattle.psg_prompt.specs.Rows.{encoded}
use Rattle.psg_prompt.proofs.row.push_drawn.Given as goal

abbrev pub invariant-loop-c : goal.invariant-loop-c
invariant-loop-c l = string_bytes l.out ++ encoded (drop l.c-index l.text) ≡ string_bytes l.initial.out ++ encoded l.text
