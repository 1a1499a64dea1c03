use Rattle.std.proofs.Common.{◌≡◌, ◌++◌, drop}
use Rattle.std.specs.Prelude.{map, string_bytes}
use Rattle.psg_tui.proofs.telling.copies_of.Given as goal

abbrev pub invariant-loop-i : goal.invariant-loop-i
invariant-loop-i l = map string_bytes l.lines.items ++ map (λ word. word.now) (drop l.i l.words) ≡ map (λ word. word.now) l.words
