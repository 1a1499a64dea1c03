use Rattle.std.proofs.Common.{◌≡◌, ◌++◌, drop, encode_utf8_all, string_bytes}
use Rattle.psg_prompt.proofs.prompt.push_all.Given as goal

abbrev pub invariant-loop-c : goal.invariant-loop-c
invariant-loop-c l =
    string_bytes l.out ++ encode_utf8_all (drop l.c-index l.chars) ≡ string_bytes l.initial.out ++ encode_utf8_all l.chars
