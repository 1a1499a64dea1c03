-- The trees that a message of a blamed place speaks of, and what is wanted there.
use Rattle.std.specs.Prelude.{ℕ, suc, ◌≡◌, ◌⊎◌, ◌==◌, Bool, true, false, List, [], ◌∷◌, ◌++◌, length, Option, Some}
use Rattle.std.specs.Prelude.{None, slice_get}
use Rattle.psg_terms.specs.Names.{is_among}
use Rattle.psg_terms.specs.Relations.{IsRelation}
use Rattle.psg_terms.specs.Terms.{Term}
use Rattle.psg_focus.specs.Shown.{rows_of}
use Rattle.psg_grammar.specs.declared.types.Definition.{Definition}
use Rattle.psg_grammar.specs.Fragments.{Fragment, hole, ending, cell, children_of}
use Rattle.psg_grammar.specs.Keys.{Key}
use Rattle.psg_grammar.specs.Legal.{AreEntities, Entities}
use Rattle.psg_grammar.specs.Open.{Choice, IsOpen, Judged}
use Rattle.psg_grammar.specs.Paths.{Path, change_at, inserted, node_at}
use Rattle.psg_grammar.specs.Regions.{IsDistinct, names_of}
use Rattle.psg_grammar.specs.Relations.{IsShownRelation}
use Rattle.psg_grammar.specs.Sizes.{IsBig, IsDeep}
use Rattle.psg_grammar.specs.Steps.{IsHeavy, IsWide, IsWideAt}
use Rattle.psg_scope.specs.declared.header.NameCol.{NameCol}
use Rattle.psg_scope.specs.Headers.{keys}
use Rattle.psg_places.specs.Listings.{opened_among}
use Rattle.psg_places.specs.Places.{places_of}
use Rattle.psg_places.specs.Ways.{there_of}

-- the tree passes a limit
abbrev pub IsTooMuch : Definition → Fragment → Type 0
IsTooMuch def f = IsDeep f ⊎ (IsBig f ⊎ (IsWide def f ⊎ IsHeavy def f))

-- the tree has a completion and passes no limit
abbrev pub IsGoodTree : Definition → Fragment → Type 0
IsGoodTree def f = IsOpen def f × (IsTooMuch def f → ⊥)

-- The values of the node at the path in completions of the tree, as most general terms in the order of their texts.
-- Where the tree passes a limit none are reported.
pub data AreValues (def : Definition) (f : Fragment) (path : Path) : List Term → Type 0 where
  values : (terms : List Term) → (IsTooMuch def f → ⊥) → (IsWideAt def f path → ⊥)
      → IsShownRelation def f path (rows_of terms) → AreValues def f path terms
  too_many : IsTooMuch def f ⊎ IsWideAt def f path → AreValues def f path []

-- the column of the relation, from 0, is that of the key; the value of the tree has the first
abbrev pub IsColumnOf : List NameCol → ℕ → Key → Type 0
IsColumnOf names column key = (place : ℕ) × (column ≡ suc place) × (slice_get (keys names) place ≡ Some key)

-- In a menu an operator is listed also where the tree with it is too wide.
abbrev pub IsListed : Definition → Fragment → Type 0
IsListed def f = IsOpen def f ⊎ IsWide def f

-- the entity of the key outside, in one way to choose rows
pub record IsEntityOf (def : Definition) (f : Fragment) (key : Key) (choice : Choice f)
    (columns : List Term) : Type 0 where
  pub distinct : IsDistinct def f
  pub outside : Entities
  pub entities : AreEntities def outside
  pub value : Term
  pub judged : Judged def outside f choice value []
  pub columns_are : columns ≡ outside key ∷ []

-- The entities of the key where the relation of the tree has a column for it, as most general terms in the order of
-- their texts. None are reported where it has none: the tree does not use the key, or an unfinished list may still
-- declare it. None are reported either where the tree passes a limit.
pub data AreKeyValues (def : Definition) (f : Fragment) (key : Key) : List Term → Type 0 where
  told : (terms : List Term) (sorts : List ℕ) → (IsTooMuch def f → ⊥) → is_among (names_of def f) key ≡ true
      → IsRelation def.signature sorts (IsEntityOf def f key) (rows_of terms) → AreKeyValues def f key terms
  without_column : is_among (names_of def f) key ≡ false → AreKeyValues def f key []
  beyond : IsTooMuch def f → AreKeyValues def f key []

-- the first place alone is kept
abbrev pub is_first : ℕ → Bool
is_first n = n == 0

-- how many elements the list has
abbrev pub elements_of : Option Fragment → ℕ
elements_of None = 0
elements_of (Some f) = length (children_of f)

-- the number of the list's kind, and of other nodes 0
abbrev pub list_of : Option Fragment → ℕ
list_of (Some (ending l u)) = l
list_of (Some (cell l e r)) = l
list_of _ = 0

-- the node is there in the tree of the places that these answers keep, all later places opened
abbrev pub IsThere : Definition → Fragment → List Bool → Path → Path → Type 0
IsThere def f kept path there = there_of (opened_among kept 0 (places_of def f)) path ≡ Some there

-- the tree with a placeholder as the last element of the list at the path
abbrev pub with_last : Fragment → Path → ℕ → Fragment
with_last f path p = change_at (inserted (elements_of (node_at f path)) (hole p)) path f

-- where that is
abbrev pub last_path : Fragment → Path → Path
last_path f path = path ++ elements_of (node_at f path) ∷ []
