-- Names as lists of bytes.
use Rattle.std.specs.Prelude.{ℕ, Bool, false, ◌||◌, List, [], ◌∷◌, bytes_eq}

-- the bytes of a name; it says nothing of which bytes a name may have
abbrev pub Name : Type 0
Name = List ℕ

-- whether the name is in the list
abbrev pub is_among : List Name → Name → Bool
is_among [] n = false
is_among (m ∷ ms) n = bytes_eq m n || is_among ms n

-- whether a name occurs twice
abbrev pub has_twice : List Name → Bool
has_twice [] = false
has_twice (n ∷ ns) = is_among ns n || has_twice ns
