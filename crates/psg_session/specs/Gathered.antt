-- Names that are gathered from a tree and sorted.
use Rattle.std.specs.Prelude.{ℕ, ◌≡◌, ◌<◌, Bool, false, List, [], ◌∷◌, bytes_eq, get_or, length}
use Rattle.std.specs.Cmp.Lexicographic.{slice_cmp}
use Rattle.std.specs.Ordering.{is_lt, nat_cmp}
use Rattle.psg_terms.specs.Names.{Name}

-- whether the name is the first of the names
abbrev pub is_first : List Name → Name → Bool
is_first [] n = false
is_first (m ∷ ms) n = bytes_eq m n

-- no name is below a later one
abbrev pub IsFalling : List Name → Type 0
IsFalling ns = (i j : ℕ) (d : Name) → i < j → j < length ns
    → is_lt (slice_cmp nat_cmp (get_or ns i d) (get_or ns j d)) ≡ false
