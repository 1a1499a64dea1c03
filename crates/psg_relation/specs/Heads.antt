-- The places of rows by the heads of a column.
use Rattle.std.specs.Prelude.{ℕ, ◌≡◌, ◌==◌, ◌<◌, ◌⊎◌, List, [], ◌∷◌, ◌++◌, All, cond, Option, Some, None, slice_get}
use Rattle.std.specs.Prelude.{slice_index_or, Vec}
use Rattle.std.specs.HashMap.{HashMap, get}
use Rattle.std.specs.declared.hash.FoldHasher.{FoldHasher}
use Rattle.std.specs.declared.hash.BuildHasherDefault.{BuildHasherDefault}
use Rattle.psg_terms.specs.Terms.{Term, variable, symbol, apply}
use Rattle.psg_terms.specs.Relations.{IsIn}

-- the constructor that a term is made by, where it is no variable
abbrev pub head_of : Term → Option ℕ
head_of (variable s n) = None
head_of (symbol c) = Some c
head_of (apply f a) = head_of f

-- the row has the column, with this constructor at the head
abbrev pub HeadAt : List Term → ℕ → ℕ → Type 0
HeadAt row column c = (t : Term) × (slice_get row column ≡ Some t) × (head_of t ≡ Some c)

-- the items of a vector that is there
abbrev pub items_of : {Z : Type 0} → Option (Vec ℕ Z) → List ℕ
items_of None = []
items_of (Some v) = v.items

-- the places of a head in a table of the program
abbrev pub places_at : {Z : Type 0} → HashMap ℕ (Vec ℕ Z) (BuildHasherDefault FoldHasher) → ℕ → List ℕ
places_at table c = items_of (get (λ (a b : ℕ). a == b) table c)

-- One more place is put with the free ones, or after those of its row's head.
abbrev pub IsNoted : List Term → ℕ → ℕ → List ℕ → (ℕ → List ℕ) → List ℕ → (ℕ → List ℕ) → Type 0
IsNoted row column place free at more after = ((more ≡ free ++ place ∷ []) × ((c : ℕ) → after c ≡ at c))
    ⊎ ((head : ℕ) × HeadAt row column head × (more ≡ free)
    × ((c : ℕ) → after c ≡ cond (head == c) (at c ++ place ∷ []) (at c)))

-- Each of the first rows has its place among the free ones or among those of its head, and there are no others.
pub record IsIndexed (rows : List (List Term)) (column count : ℕ) (free : List ℕ) (at : ℕ → List ℕ) : Type 0 where
  pub free_within : All (λ i. i < count) free
  pub heads_within : (c : ℕ) → All (λ i. i < count) (at c)
  pub found : (i : ℕ) → i < count → IsIn i free ⊎ ((c : ℕ) × HeadAt (slice_index_or rows i []) column c × IsIn i (at c))
