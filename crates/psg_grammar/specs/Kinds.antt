-- Names and sorts of kinds and operators by their numbers.
use Rattle.std.specs.Prelude.{ℕ, ◌≡◌, ◌<◌, length, Option, Some, slice_get, option_map}
use Rattle.psg_terms.specs.Names.{Name}
use Rattle.psg_terms.specs.declared.sorts.SortId.{SortId}
use Rattle.psg_grammar.specs.declared.types.Kind.{Kind}
use Rattle.psg_grammar.specs.declared.types.Kind.TheVariants as kinds
use Rattle.psg_grammar.specs.declared.types.Item.{Item}
use Rattle.psg_grammar.specs.declared.types.Item.TheVariants as items
use Rattle.psg_grammar.specs.declared.types.Phylum.{Phylum}
use Rattle.psg_grammar.specs.declared.types.ListKind.{ListKind}
use Rattle.psg_grammar.specs.declared.types.Operator.{Operator}
use Rattle.psg_grammar.specs.declared.types.Definition.{Definition}
use Rattle.psg_grammar.specs.Fragments.{Fragment, hole, ending, cell, operator, with_child, with_name, with_number}
use Rattle.psg_grammar.specs.Fragments.{with_text, anything, observed}

-- the number of the kind is in range
abbrev pub HasKind : Definition → Kind → Type 0
HasKind def (kinds.Phylum p) = p < length def.phyla
HasKind def (kinds.List l) = l < length def.lists

-- a slot is for a kind that is there
abbrev pub HasSlotKind : Definition → Item → Type 0
HasSlotKind def (items.Slot k) = HasKind def k
HasSlotKind def _ = Unit {0}

-- the phylum itself, or that of the list's elements
abbrev pub base_phylum_of : Definition → Kind → Option ℕ
base_phylum_of def (kinds.Phylum p) = Some p
base_phylum_of def (kinds.List l) = option_map (λ (k : ListKind). k.element) (slice_get def.lists l)

-- the name of the kind, if it is there
abbrev pub kind_name_of : Definition → Kind → Option Name
kind_name_of def (kinds.Phylum p) = option_map (λ (k : Phylum). k.name) (slice_get def.phyla p)
kind_name_of def (kinds.List l) = option_map (λ (k : ListKind). k.name) (slice_get def.lists l)

-- the sort of the values of the kind, if it is there
abbrev pub kind_sort_of : Definition → Kind → Option SortId
kind_sort_of def (kinds.Phylum p) = option_map (λ (k : Phylum). k.sort) (slice_get def.phyla p)
kind_sort_of def (kinds.List l) = option_map (λ (k : ListKind). k.sort) (slice_get def.lists l)

-- the name of the operator, if it is there
abbrev pub op_name_of : Definition → ℕ → Option Name
op_name_of def o = option_map (λ (op : Operator). op.name) (slice_get def.operators o)

-- the kind of a tree, by its top alone
abbrev pub IsOfKind : Definition → Fragment → Kind → Type 0
IsOfKind def (hole p) k = k ≡ kinds.Phylum p
IsOfKind def (ending l u) k = k ≡ kinds.List l
IsOfKind def (cell l e r) k = k ≡ kinds.List l
IsOfKind def (operator o) k = (op : Operator) × (slice_get def.operators o ≡ Some op) × (k ≡ kinds.Phylum op.phylum)
IsOfKind def (with_child f t) k = IsOfKind def f k
IsOfKind def (with_name f n) k = IsOfKind def f k
IsOfKind def (with_number f n) k = IsOfKind def f k
IsOfKind def (with_text f t) k = IsOfKind def f k
IsOfKind def anything k = ⊥
IsOfKind def (observed f) k = IsOfKind def f k
