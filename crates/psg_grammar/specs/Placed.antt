-- Trees with places that take a tree of a kind: the trees of specimens, and fragments with placeholders.
use Rattle.std.specs.Prelude.{ℕ, ◌≡◌, ◌<◌, ◌^◌, ◌⊎◌, true, false, List, [], ◌∷◌, length, slice_get, Some, IsUtf8}
use Rattle.psg_grammar.specs.declared.types.Kind.{Kind}
use Rattle.psg_grammar.specs.declared.types.Kind.TheVariants as kinds
use Rattle.psg_grammar.specs.declared.types.Item.{Item}
use Rattle.psg_grammar.specs.declared.types.Item.TheVariants as items
use Rattle.psg_grammar.specs.declared.types.Operator.{Operator}
use Rattle.psg_grammar.specs.declared.types.ListKind.{ListKind}
use Rattle.psg_grammar.specs.declared.types.Definition.{Definition}
use Rattle.psg_grammar.specs.Fragments.{Fragment, hole, ending, cell, operator, with_child, with_name, with_number}
use Rattle.psg_grammar.specs.Fragments.{with_text, anything, observed}
use Rattle.psg_grammar.specs.Lookups.{part_items}
use Rattle.psg_grammar.specs.Declaring.{HasHoles}
use Rattle.psg_grammar.specs.WellFormed.{IsListEnd}

-- The tree is of the kind, and parts of these items still follow. The places with any value are of the kinds that
-- places has in front of left. There are placeholders and unfinished ends only if they are allowed.
module _ (def : Definition) (Allowed : Type 0) where
  abbrev pub FitsPlaces : Fragment → List Item → Kind → List Kind → List Kind → Type 0
  FitsPlaces (hole p) more kind places left = Allowed × (more ≡ []) × (kind ≡ kinds.Phylum p) × (places ≡ left)
      × (p < length def.phyla) × HasHoles def kind
  FitsPlaces (ending l true) more kind places left = Allowed × (more ≡ []) × (kind ≡ kinds.List l) × (places ≡ left)
      × IsListEnd def l true
  FitsPlaces (ending l false) more kind places left = (more ≡ []) × (kind ≡ kinds.List l) × (places ≡ left)
      × IsListEnd def l false
  FitsPlaces (cell l e r) more kind places left =
      (more ≡ []) × (kind ≡ kinds.List l) × (mid : List Kind) × (k : ListKind) × (slice_get def.lists l ≡ Some k)
      × FitsPlaces e [] (kinds.Phylum k.element) places mid × FitsPlaces r [] (kinds.List l) mid left
  FitsPlaces (operator o) more kind places left = (places ≡ left) × (op : Operator)
      × (slice_get def.operators o ≡ Some op) × (more ≡ part_items op.items) × (kind ≡ kinds.Phylum op.phylum)
  FitsPlaces (with_child f t) more kind places left = (k : Kind) × (mid : List Kind)
      × FitsPlaces f (items.Slot k ∷ more) kind places mid × FitsPlaces t [] k mid left
  FitsPlaces (with_name f n) more kind places left = ((s : ℕ) × FitsPlaces f (items.Refers s ∷ more) kind places left)
      ⊎ ((s : ℕ) × FitsPlaces f (items.Declares s ∷ more) kind places left)
  FitsPlaces (with_number f n) more kind places left = FitsPlaces f (items.Number ∷ more) kind places left
      × (n < 2 ^ 128)
  FitsPlaces (with_text f t) more kind places left = FitsPlaces f (items.Text ∷ more) kind places left × IsUtf8 t
  FitsPlaces anything more kind places left = (Allowed → ⊥) × (more ≡ []) × (places ≡ kind ∷ left)
  FitsPlaces (observed f) more kind places left = Allowed × (more ≡ []) × FitsPlaces f [] kind places left
