use Rattle.std.proofs.Common.{◌≡◌, ◌++◌, string_bytes}
use Rattle.std.specs.Prelude.{encode_utf8_all}
use Rattle.psg_lexis.specs.Tokens.{quoted}
use Rattle.psg_self.proofs.lines.write_quoted.Given as goal

abbrev pub invariant-loop-ch : goal.invariant-loop-ch
invariant-loop-ch l = string_bytes l.out ≡ string_bytes l.initial.out ++ encode_utf8_all (quoted l.yielded)
