use Rattle.std.proofs.Common.{◌≡◌, ◌++◌, encode_utf8_all, replicate, string_bytes}
use Rattle.psg_screen.proofs.line.push_spaces.Given as goal

abbrev pub invariant-loop : goal.invariant-loop
invariant-loop l = string_bytes l.shown ≡ string_bytes l.initial.shown ++ encode_utf8_all (replicate l.counter 32)
