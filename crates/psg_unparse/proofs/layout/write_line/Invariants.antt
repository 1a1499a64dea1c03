use Rattle.std.proofs.Common.{◌≡◌, ◌*◌, ◌++◌, replicate, string_bytes}
use Rattle.psg_unparse.proofs.layout.write_line.Given as goal

abbrev pub invariant-loop-level : goal.invariant-loop-level
invariant-loop-level l = string_bytes l.out ≡ string_bytes l.initial.out ++ replicate (2 * l._level) 32
