-- Runs of a letter.
use Rattle.std.specs.Prelude.{ℕ, zero, suc, [], ◌∷◌}
use Rattle.psg_terms.specs.Names.{Name}

-- that many letters a
abbrev pub run : ℕ → Name
run zero = []
run (suc n) = 97 ∷ run n
