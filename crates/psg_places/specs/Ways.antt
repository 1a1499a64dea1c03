-- Where the nodes of a tree are in the tree of its kept places, by the list of the places that are opened.
use Rattle.std.specs.Prelude.{ℕ, ◌+◌, ◌-◌, ◌≡◌, ◌&&◌, ◌||◌, nat_eq, nat_lt, Bool, false, cond, List, [], ◌∷◌}
use Rattle.std.specs.Prelude.{length, Option, Some, None}
use Rattle.std.specs.List.{list_any, starts_with}
use Rattle.psg_grammar.specs.Paths.{Path}
use Rattle.psg_places.specs.declared.place.Place.{Place}
use Rattle.psg_places.specs.declared.place.Place.TheVariants.{Node, Element, End, Name}
use Rattle.psg_places.specs.Places.{below}

-- the path `at` leads to the node at the path or to one above it
abbrev pub goes_through : Path → Path → Bool
goes_through at path = starts_with nat_eq path at

-- what is said there, of a path to a node below the top
abbrev pub goes_into : Path → Path → Bool
goes_into [] path = false
goes_into (j ∷ at) path = goes_through (j ∷ at) path

-- the path `at` leads to a node above the one at the path
abbrev pub goes_past : Path → Path → Bool
goes_past at path = nat_lt (length at) (length path) && goes_through at path

-- the path `at` leads to one of the first k elements of the list at the path
abbrev pub goes_before : ℕ → Path → Path → Bool
goes_before k [] [] = false
goes_before k [] (j ∷ []) = nat_lt j k
goes_before k [] (j ∷ (i ∷ at)) = false
goes_before k (s ∷ path) [] = false
goes_before k (s ∷ path) (j ∷ at) = nat_eq j s && goes_before k path at

-- ---- what an opened place does to the node at a path

-- The node is below the placeholder that the place becomes.
abbrev pub covers : Path → Place → Bool
covers path (Node at) = goes_past at path
covers path (Element at) = false
covers path (End at) = false
covers path (Name at n) = false

-- The node is left out with the place, which is an element.
abbrev pub takes_along : Path → Place → Bool
takes_along path (Node at) = false
takes_along path (Element at) = goes_into at path
takes_along path (End at) = false
takes_along path (Name at n) = false

-- The place is one of the first k elements of the list at the path.
abbrev pub is_earlier : Path → ℕ → Place → Bool
is_earlier path k (Node at) = false
is_earlier path k (Element at) = goes_before k path at
is_earlier path k (End at) = false
is_earlier path k (Name at n) = false

-- how many of the first k elements of the list at the path are left out, if these places are opened
abbrev pub earlier : List Place → Path → ℕ → ℕ
earlier [] path k = 0
earlier (p ∷ ps) path k = cond (is_earlier path k p) 1 0 + earlier ps path k

-- ---- where it is

module _ (opened : List Place) where
  -- the node at the path is below a placeholder
  abbrev pub is_covered : Path → Bool
  is_covered path = list_any (covers path) opened

  -- the node at the path is left out
  abbrev pub is_left_out : Path → Bool
  is_left_out path = list_any (takes_along path) opened

  -- the path in the tree of the kept places: each step is less by the elements of its list before it that are left out;
  -- the steps `at` are taken before
  abbrev pub moved : Path → Path → Path
  moved at [] = []
  moved at (k ∷ path) = (k - earlier opened at k) ∷ moved (below at k) path

  -- the path of the node in the tree of the kept places, if it is there
  abbrev pub there_of : Path → Option Path
  there_of path = cond (is_covered path || is_left_out path) None (Some (moved [] path))

-- the node at the path `back` is not left out, and the path leads to where it is in the tree of the kept places
pub record IsBack (opened : List Place) (path back : Path) : Type 0 where
  pub there : is_left_out opened back ≡ false
  pub moves : moved opened [] back ≡ path

-- ---- steps

-- the element of the list that has this number in the tree of the kept places
pub record IsElementBack (opened : List Place) (at : Path) (step back : ℕ) : Type 0 where
  pub moves : back - earlier opened at back ≡ step
  pub same : earlier opened at (back + 1) ≡ earlier opened at back
