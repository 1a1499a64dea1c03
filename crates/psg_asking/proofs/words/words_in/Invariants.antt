use Rattle.std.proofs.Common.{◌≡◌}
use Rattle.std.specs.Prelude.{map, string_bytes}
use Rattle.psg_asking.specs.Told.{words_in}
use Rattle.psg_asking.proofs.words.words_in.Given as goal

abbrev pub invariant-loop-line : goal.invariant-loop-line
invariant-loop-line l = map string_bytes l.words.items ≡ words_in (map (λ w. w.now) l.yielded)
