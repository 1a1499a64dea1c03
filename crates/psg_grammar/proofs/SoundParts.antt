-- What a sound definition says of its parts by number.
use Rattle.std.proofs.Common.{◌≡◌, ℕ, ◌<◌, List, [], ◌∷◌, length, Some, slice_get}
use Rattle.std.specs.List.{AllByRecursion}
use Rattle.std.proofs.lemmas.Option.{slice_get_within}
use Rattle.psg_terms.proofs.Lists.{each_at}
use Rattle.psg_grammar.specs.declared.types.Kind.{Kind}
use Rattle.psg_grammar.specs.declared.types.Kind.TheVariants as kinds
use Rattle.psg_grammar.specs.declared.types.Item.{Item}
use Rattle.psg_grammar.specs.declared.types.Item.TheVariants as items
use Rattle.psg_grammar.specs.declared.types.Operator.{Operator}
use Rattle.psg_grammar.specs.declared.types.ListKind.{ListKind}
use Rattle.psg_grammar.specs.declared.types.Definition.{Definition}
use Rattle.psg_grammar.specs.Kinds.{HasKind, HasSlotKind}
use Rattle.psg_grammar.specs.Sound.{IsSound, IsOperator, IsListKind, IsItem, HasKindSort}

pub has_kind : (def : Definition) (kind : Kind) (s : ℕ) → HasKindSort def kind s → HasKind def kind
has_kind def (kinds.Phylum p) s (k, at, sort) = slice_get_within def.phyla p k at
has_kind def (kinds.List l) s (k, at, sort) = slice_get_within def.lists l k at

slot_kinds : (def : Definition) (xs : List Item) → AllByRecursion (IsItem def) xs → AllByRecursion (HasSlotKind def) xs
slot_kinds def [] h = tt
slot_kinds def (items.Slot k ∷ xs) h = (has_kind def k h.0.0 h.0.1, slot_kinds def xs h.1)
slot_kinds def (items.Word w ∷ xs) h = (tt, slot_kinds def xs h.1)
slot_kinds def (items.Refers s ∷ xs) h = (tt, slot_kinds def xs h.1)
slot_kinds def (items.Declares s ∷ xs) h = (tt, slot_kinds def xs h.1)
slot_kinds def (items.Number ∷ xs) h = (tt, slot_kinds def xs h.1)
slot_kinds def (items.Text ∷ xs) h = (tt, slot_kinds def xs h.1)
slot_kinds def (items.Space ∷ xs) h = (tt, slot_kinds def xs h.1)
slot_kinds def (items.Tight ∷ xs) h = (tt, slot_kinds def xs h.1)
slot_kinds def (items.Line ∷ xs) h = (tt, slot_kinds def xs h.1)
slot_kinds def (items.In ∷ xs) h = (tt, slot_kinds def xs h.1)
slot_kinds def (items.Out ∷ xs) h = (tt, slot_kinds def xs h.1)

module _ (def : Definition) (sound : IsSound def) where
  pub operator_sound : (o : ℕ) (op : Operator) → slice_get def.operators o ≡ Some op → IsOperator def op
  operator_sound o op at = each_at (IsOperator def) def.operators sound.operators o op at

  pub list_sound : (l : ℕ) (kind : ListKind) → slice_get def.lists l ≡ Some kind → IsListKind def kind
  list_sound l kind at = each_at (IsListKind def) def.lists sound.lists l kind at

  pub items_in : (o : ℕ) (op : Operator) → slice_get def.operators o ≡ Some op → AllByRecursion (HasSlotKind def) op.items
  items_in o op at = slot_kinds def op.items (operator_sound o op at).each_item

  pub elements_in : (l : ℕ) (kind : ListKind) → slice_get def.lists l ≡ Some kind → kind.element < length def.phyla
  elements_in l kind at = let h = list_sound l kind at in has_kind def (kinds.Phylum kind.element) h.element h.element_sort

  pub phylum_in : (o : ℕ) (op : Operator) → slice_get def.operators o ≡ Some op → op.phylum < length def.phyla
  phylum_in o op at = let h = operator_sound o op at in has_kind def (kinds.Phylum op.phylum) h.sort h.phylum_sort
