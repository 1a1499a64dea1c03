-- Trees by their own parts, whatever their children are.
use Rattle.std.specs.Prelude.{ℕ, ◌≡◌, ◌⊎◌, ◌+◌, List, [], ◌∷◌, ◌++◌, slice_get, Some}
use Rattle.psg_terms.specs.Names.{Name}
use Rattle.psg_grammar.specs.declared.types.Kind.{Kind}
use Rattle.psg_grammar.specs.declared.types.Item.{Item}
use Rattle.psg_grammar.specs.declared.types.Item.TheVariants as items
use Rattle.psg_grammar.specs.declared.types.Operator.{Operator}
use Rattle.psg_grammar.specs.declared.types.Definition.{Definition}
use Rattle.psg_grammar.specs.Fragments.{Fragment, hole, ending, cell, operator, with_child, with_name}
use Rattle.psg_grammar.specs.Fragments.{with_number, with_text, anything, observed, top_operator}
use Rattle.psg_grammar.specs.Lookups.{part_items}

-- how many values are observed: those of observed nodes and of places with any value
abbrev pub seen_in : Fragment → ℕ
seen_in (hole p) = 0
seen_in (ending l u) = 0
seen_in (cell l e r) = seen_in e + seen_in r
seen_in (operator o) = 0
seen_in (with_child f t) = seen_in f + seen_in t
seen_in (with_name f n) = seen_in f
seen_in (with_number f n) = seen_in f
seen_in (with_text f t) = seen_in f
seen_in anything = 1
seen_in (observed f) = 1 + seen_in f

-- The operator has the parts of its items, where parts of these items still follow. Any word may be a name. A child may
-- be of any kind, and may be a place with any value.
module _ (def : Definition) where
  abbrev pub HasParts : Fragment → List Item → Type 0
  HasParts (operator o) more = (op : Operator) × (slice_get def.operators o ≡ Some op) × (more ≡ part_items op.items)
  HasParts (with_child f t) more = (k : Kind) × HasParts f (items.Slot k ∷ more)
  HasParts (with_name f n) more =
      ((s : ℕ) × HasParts f (items.Refers s ∷ more)) ⊎ ((s : ℕ) × HasParts f (items.Declares s ∷ more))
  HasParts (with_number f n) more = HasParts f (items.Number ∷ more)
  HasParts (with_text f t) more = HasParts f (items.Text ∷ more)
  HasParts (hole p) more = ⊥
  HasParts (ending l u) more = ⊥
  HasParts (cell l e r) more = ⊥
  HasParts anything more = ⊥
  HasParts (observed f) more = ⊥

-- the names at the operator's own name positions, in order
abbrev pub own_names : Fragment → List Name
own_names (with_child f t) = own_names f
own_names (with_name f n) = own_names f ++ n ∷ []
own_names (with_number f n) = own_names f
own_names (with_text f t) = own_names f
own_names (hole p) = []
own_names (ending l u) = []
own_names (cell l e r) = []
own_names (operator o) = []
own_names anything = []
own_names (observed f) = []

-- the tree is the operator with these names, any literals and as many children as it has slots
pub record IsNode (def : Definition) (number : ℕ) (names : List Name) (f : Fragment) : Type 0 where
  pub top : top_operator f ≡ Some number
  pub parts : HasParts def f []
  pub own : own_names f ≡ names
