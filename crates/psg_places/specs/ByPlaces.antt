-- The tree in which only some of its places are kept, by the places themselves.
use Rattle.std.specs.Prelude.{ℕ, suc, ◌≡◌, ◌||◌, ◌&&◌, not, Bool, cond, List, [], length}
use Rattle.std.specs.Prelude.{slice_get, unwrap_or}
use Rattle.psg_terms.specs.Names.{Name as Word}
use Rattle.psg_grammar.specs.declared.types.Definition.{Definition}
use Rattle.psg_grammar.specs.Fragments.{Fragment, hole, ending, cell, operator, with_child, with_name, with_number}
use Rattle.psg_grammar.specs.Fragments.{with_text, anything, observed, children_of}
use Rattle.psg_grammar.specs.Paths.{Path}
use Rattle.psg_places.specs.declared.place.Place.{Place}
use Rattle.psg_places.specs.declared.place.Place.TheVariants.{Node, Element, End, Name}
use Rattle.psg_places.specs.Places.{below, has_no_placeholder, is_hole, may_go_on, names_before, phylum_of, places_of}
use Rattle.psg_places.specs.Opened.{opened}

-- `kept` says which places are kept, and `fresh` has a name for each place of a name that is not kept.
module _ (def : Definition) (kept : Place → Bool) (fresh : Place → Word) where
  -- the child at the path, from the child with its contents opened: a node that is not kept is a placeholder
  abbrev pub child_by : Path → Fragment → Fragment → Fragment
  child_by path t inner = cond (has_no_placeholder def t) inner
      (cond (is_hole t) t (cond (kept (Node path)) inner (hole (phylum_of def t))))

  -- What is below the operator or list at the path: an element that is not kept is left out, an end that is not kept is
  -- unfinished, and a name that is not kept is the new one of its place. k is the number of the list's first element.
  abbrev pub contents_by : Path → ℕ → Fragment → Fragment
  contents_by path k (hole p) = hole p
  contents_by path k (ending l u) = ending l (u || (may_go_on def l && not (kept (End path))))
  contents_by path k (cell l e r) = cond (may_go_on def l && not (kept (Element (below path k))))
      (contents_by path (suc k) r)
      (cell l (child_by (below path k) e (contents_by (below path k) 0 e)) (contents_by path (suc k) r))
  contents_by path k (operator o) = operator o
  contents_by path k (with_child f t) = with_child (contents_by path k f)
      (child_by (below path (length (children_of f))) t (contents_by (below path (length (children_of f))) 0 t))
  contents_by path k (with_name f x) = with_name (contents_by path k f)
      (cond (kept (Name path (names_before f))) x (fresh (Name path (names_before f))))
  contents_by path k (with_number f x) = with_number (contents_by path k f) x
  contents_by path k (with_text f x) = with_text (contents_by path k f) x
  contents_by path k anything = anything
  contents_by path k (observed f) = observed f

  abbrev pub opened_by : Fragment → Fragment
  opened_by f = child_by [] f (contents_by [] 0 f)

-- the place of the number, and the top of the tree if there is none
abbrev pub numbered : List Place → ℕ → Place
numbered places n = unwrap_or (slice_get places n) (Node [])

-- The law that ties numbers to places: if each number is kept as its place is, the tree is that of the kept places.
abbrev pub AreNumbered : Definition → Type 0
AreNumbered def = (f : Fragment) (kept : Place → Bool) (fresh : Place → Word)
    → opened def (λ n. kept (numbered (places_of def f) n)) (λ n. fresh (numbered (places_of def f) n)) f
    ≡ opened_by def kept fresh f
