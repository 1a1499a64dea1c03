-- How deep rows are, and which rows no relation within the limit has.
use Rattle.std.specs.Prelude.{ℕ, ◌≡◌, ◌<◌, ◌-◌, ◌^◌, ◌⊎◌, min, max, List, [], ◌∷◌, sum_by}
use Rattle.psg_terms.specs.Terms.{Term}
use Rattle.psg_terms.specs.Weight.{symbols_of, depth_of, above_of}

-- the depth of the deepest term, and 0 where there is none
abbrev pub deepest_in : List Term → ℕ
deepest_in [] = 0
deepest_in (t ∷ row) = max (depth_of t) (deepest_in row)

-- how deep the deepest term of all rows is, and 0 where there is none
abbrev pub deepest_of : List (List Term) → ℕ
deepest_of [] = 0
deepest_of (row ∷ rows) = max (deepest_in row) (deepest_of rows)

-- one above the greatest number of a variable of the terms, and 0 where they have none
abbrev pub highest_in : List Term → ℕ
highest_in [] = 0
highest_in (t ∷ row) = max (above_of t) (highest_in row)

-- the numbers are those of the row, symbols and depth as far as they fit
pub record IsMeasured (row : List Term) (symbols depth above : ℕ) : Type 0 where
  pub symbols_right : symbols ≡ min (sum_by symbols_of row) (2 ^ 64 - 1)
  pub depth_right : depth ≡ min (deepest_in row) (2 ^ 64 - 1)
  pub above_right : above ≡ highest_in row

-- above 16,384 variables and constructors, or a term deeper than 1,000
abbrev pub IsHeavy : List Term → Type 0
IsHeavy row = (16384 < sum_by symbols_of row) ⊎ (1000 < deepest_in row)
