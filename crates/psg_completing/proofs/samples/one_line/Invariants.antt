use Rattle.std.proofs.Common.{◌≡◌, []}
use Rattle.std.specs.Prelude.{map, string_bytes}
use Rattle.psg_completing.specs.Samples.{with_lines}
use Rattle.psg_completing.proofs.samples.one_line.Given as goal

abbrev pub invariant-loop-part : goal.invariant-loop-part
invariant-loop-part l = string_bytes l.line ≡ with_lines [] (map (λ w. w.now) l.yielded)
