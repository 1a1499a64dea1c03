-- Rows joined with themselves.
use Rattle.std.specs.Prelude.{ℕ, zero, suc, List, [], ◌∷◌, length}
use Rattle.psg_terms.specs.Terms.{Term}
use Rattle.psg_unify.specs.Pairs.{Pair as Columns}
use Rattle.psg_relation.specs.Joining.{Two}

-- each of that many columns from this one on, with itself
abbrev pub diagonal : ℕ → ℕ → List Columns
diagonal from zero = []
diagonal from (suc count) = (from, from) ∷ diagonal (suc from) count

-- each row with itself
abbrev pub twins : List (List Term) → List Two
twins [] = []
twins (row ∷ rows) = (row, row) ∷ twins rows

-- how many columns the first row has
abbrev pub width_of : List (List Term) → ℕ
width_of [] = 0
width_of (row ∷ rows) = length row
