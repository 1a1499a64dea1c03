-- The saved fragments.
use Rattle.std.specs.Prelude.{ℕ, ◌≡◌, ◌≤◌, cond, List, [], ◌∷◌, ◌++◌, length, Option, None, bytes_eq, find}
use Rattle.psg_terms.specs.Names.{Name}
use Rattle.psg_library.specs.declared.fragment.SavedFragment.{SavedFragment as Saved}

-- the largest number of fragments that are saved
abbrev pub most_saved : ℕ
most_saved = 64

-- the saved fragment of the name
abbrev pub saved_at : List Saved → Name → Option Saved
saved_at xs name = find (λ x. bytes_eq x.name name) xs

-- the saved fragments of other names
abbrev pub others : Name → List Saved → List Saved
others name [] = []
others name (x ∷ xs) = cond (bytes_eq x.name name) (others name xs) (x ∷ others name xs)

-- One more fragment is saved. One that had its name is no longer.
abbrev pub saved_with : List Saved → Saved → List Saved
saved_with xs new = others new.name xs ++ new ∷ []

-- as many as may be are saved, and none of them has the name
abbrev pub IsFull : List Saved → Name → Type 0
IsFull xs name = (saved_at xs name ≡ None) × (most_saved ≤ length xs)
