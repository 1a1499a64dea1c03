-- The nodes of the tree of the kept places are where the paths there lead.
use Rattle.std.specs.Prelude.{ℕ, ◌≡◌, nat_eq, Bool, true, false, List, Some}
use Rattle.std.specs.List.{list_any}
use Rattle.std.specs.Cmp.Lexicographic.{pointwise}
use Rattle.psg_terms.specs.Names.{Name as Word}
use Rattle.psg_grammar.specs.declared.types.Definition.{Definition}
use Rattle.psg_grammar.specs.Fragments.{Fragment, hole}
use Rattle.psg_grammar.specs.Paths.{Path, node_at}
use Rattle.psg_places.specs.declared.place.Place.{Place}
use Rattle.psg_places.specs.declared.place.Place.TheVariants.{Node, Element, End, Name}
use Rattle.psg_places.specs.Blame.{kept_in}
use Rattle.psg_places.specs.Listings.{opened_among}
use Rattle.psg_places.specs.Opened.{contents, opened}
use Rattle.psg_places.specs.Places.{phylum_of, places_of}
use Rattle.psg_places.specs.Ways.{IsBack, there_of}

-- the place is the operator of the node at the path
abbrev pub is_node : Path → Place → Bool
is_node path (Node at) = pointwise nat_eq at path
is_node path (Element at) = false
is_node path (End at) = false
is_node path (Name at n) = false

-- the node at the path is opened itself
abbrev pub is_opened_at : List Place → Path → Bool
is_opened_at opened path = list_any (is_node path) opened

module _ (def : Definition) (kept : List Bool) (fresh : ℕ → Word) where
  -- What becomes of the node t at the path: a placeholder if it is opened itself, and else the node with some places
  -- below it opened. Which ones is not said here.
  pub record Becomes (gone : List Place) (path : Path) (t u : Fragment) : Type 0 where
    pub placeholder : is_opened_at gone path ≡ true → u ≡ hole (phylum_of def t)
    pub same : is_opened_at gone path ≡ false → (d n : ℕ) × (u ≡ contents def (kept_in kept) fresh d n t)

  -- the places of the tree that are not kept
  abbrev pub gone_of : Fragment → List Place
  gone_of f = opened_among kept 0 (places_of def f)

  -- The path there of a node leads to what becomes of it.
  abbrev pub LeadsThere : Fragment → Type 0
  LeadsThere f = (path there : Path) (t : Fragment) → node_at f path ≡ Some t → there_of (gone_of f) path ≡ Some there
      → (u : Fragment) × (node_at (opened def (kept_in kept) fresh f) there ≡ Some u) × Becomes (gone_of f) path t u

  -- The path back of a node of the tree of the kept places leads to a node of the tree, which is there.
  abbrev pub LeadsBack : Fragment → Type 0
  LeadsBack f = (path back : Path) (u : Fragment) → node_at (opened def (kept_in kept) fresh f) path ≡ Some u
      → IsBack (gone_of f) path back → (t : Fragment) × (node_at f back ≡ Some t)
      × (there_of (gone_of f) back ≡ Some path)
