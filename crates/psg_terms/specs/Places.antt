-- A table from the number of a variable to its place.
use Rattle.std.specs.Prelude.{ℕ, ◌≡◌, ◌<◌, ◌==◌, ◌⊎◌, zero, suc, cond, List, [], ◌∷◌, length, get_or, slice_get, Some}
use Rattle.std.specs.Prelude.{set}
use Rattle.psg_terms.specs.declared.canonical.Key.{Key}

-- one more, unless it is 0
abbrev pub one_more : ℕ → ℕ
one_more zero = zero
one_more (suc m) = suc (suc m)

-- one above the place of the first key of the number, and 0 where there is none
abbrev pub first_with : ℕ → List Key → ℕ
first_with n [] = 0
first_with n (k ∷ ks) = cond (k.number == n) 1 (one_more (first_with n ks))

-- the table says so of each of its numbers
abbrev pub IsTable : List ℕ → List Key → Type 0
IsTable table order = (n : ℕ) → n < length table → get_or table n 0 ≡ first_with n order

-- the entry is at the number, where the old table has the number and no entry there
abbrev pub IsMarked : ℕ → ℕ → List ℕ → List ℕ → Type 0
IsMarked n entry old new =
    ((slice_get old n ≡ Some 0 → ⊥) × (new ≡ old)) ⊎ ((slice_get old n ≡ Some 0) × (new ≡ set old n entry))
