-- The parts of a new operator, item by item.
use Rattle.std.proofs.Common.{◌≡◌, ◌<◌, ℕ, ◌+◌, true, false, true≢false, List, [], ◌∷◌, ◌++◌, length, drop, get_or, map, Some, None, slice_get, refl, sym, ◌∙◌, ap, subst}
use Rattle.std.specs.List.{AllByRecursion}
use Rattle.std.proofs.lemmas.Option.{slice_get-get_or}
use Rattle.psg_terms.proofs.Lists.{each_at, drop_there}
use Rattle.psg_grammar.specs.declared.types.Kind.{Kind}
use Rattle.psg_grammar.specs.declared.types.Item.{Item}
use Rattle.psg_grammar.specs.declared.types.Item.TheVariants as items
use Rattle.psg_grammar.specs.declared.types.Operator.{Operator}
use Rattle.psg_grammar.specs.declared.types.Definition.{Definition}
use Rattle.psg_grammar.specs.Fragments.{Fragment, with_child}
use Rattle.psg_grammar.specs.Kinds.{HasSlotKind}
use Rattle.psg_grammar.specs.Lookups.{part_items}
use Rattle.psg_grammar.specs.Insertion.{Leaf as PlainLeaf, blank, filled, with_leaf}
use Rattle.psg_grammar.specs.Sound.{IsSound}
use Rattle.psg_grammar.proofs.SoundParts.{items_in}
use Rattle.psg_tree.specs.declared.tree.Part.{Part}
use Rattle.psg_tree.specs.declared.tree.Part.TheVariants.{Sub}
use Rattle.psg_tree.specs.Shapes.{with_part, with_parts}
use Rattle.psg_session.specs.declared.leaves.Leaf.{Leaf}
use Rattle.psg_session.specs.LeafItems.{has_leaf}
use Rattle.psg_session.specs.Views.{plain_leaf}
use Rattle.psg_session.proofs.LeafLaws.{drop_past}

with_parts-append : (f : Fragment) (xs ys : List Part) → with_parts f (xs ++ ys) ≡ with_parts (with_parts f xs) ys
with_parts-append f [] ys = refl
with_parts-append f (x ∷ xs) ys = with_parts-append (with_part f x) xs ys

-- a slot among the items of a sound operator is of a kind that is there
pub slot_there : (def : Definition) → IsSound def → (o : ℕ) (op : Operator) (its : List Item)
    → slice_get def.operators o ≡ Some op → its ≡ op.items
    → (i : ℕ) (item : Item) → i < length its → item ≡ get_or its i item → HasSlotKind def item
slot_there def sound o op its found same i item small at =
    let all : AllByRecursion (HasSlotKind def) its = subst (AllByRecursion (HasSlotKind def)) (sym same)
    (items_in def sound o op found) in
    each_at (HasSlotKind def) its all i item (slice_get-get_or its i item small ∙ ap Some (sym at))

module _ (def : Definition) where
  leaf_item : (i : Item) (rest : List Item) (f : Fragment) (x : PlainLeaf) (xs : List PlainLeaf) → has_leaf i ≡ true
      → filled def f (part_items (i ∷ rest)) (x ∷ xs) ≡ filled def (with_leaf f x) (part_items rest) xs
  leaf_item (items.Refers s) rest f x xs e = refl
  leaf_item (items.Declares s) rest f x xs e = refl
  leaf_item items.Number rest f x xs e = refl
  leaf_item items.Text rest f x xs e = refl
  leaf_item (items.Slot k) rest f x xs e = absurd (true≢false (sym e))
  leaf_item (items.Word w) rest f x xs e = absurd (true≢false (sym e))
  leaf_item items.Space rest f x xs e = absurd (true≢false (sym e))
  leaf_item items.Tight rest f x xs e = absurd (true≢false (sym e))
  leaf_item items.Line rest f x xs e = absurd (true≢false (sym e))
  leaf_item items.In rest f x xs e = absurd (true≢false (sym e))
  leaf_item items.Out rest f x xs e = absurd (true≢false (sym e))

  bare_item : (i : Item) (rest : List Item) (f : Fragment) → has_leaf i ≡ true
      → filled def f (part_items (i ∷ rest)) [] ≡ filled def f (part_items rest) []
  bare_item (items.Refers s) rest f e = refl
  bare_item (items.Declares s) rest f e = refl
  bare_item items.Number rest f e = refl
  bare_item items.Text rest f e = refl
  bare_item (items.Slot k) rest f e = absurd (true≢false (sym e))
  bare_item (items.Word w) rest f e = absurd (true≢false (sym e))
  bare_item items.Space rest f e = absurd (true≢false (sym e))
  bare_item items.Tight rest f e = absurd (true≢false (sym e))
  bare_item items.Line rest f e = absurd (true≢false (sym e))
  bare_item items.In rest f e = absurd (true≢false (sym e))
  bare_item items.Out rest f e = absurd (true≢false (sym e))

  -- an item that has no part adds nothing
  pub other_filled : (f : Fragment) (parts : List Part) (i : Item) (leaves : List PlainLeaf)
      → ((k : Kind) → i ≡ items.Slot k → ⊥) → has_leaf i ≡ false
      → (rest : List Item)
      → filled def (with_parts f parts) (part_items rest) leaves
      ≡ filled def (with_parts f parts) (part_items (i ∷ rest)) leaves
  other_filled f parts (items.Slot k) leaves never e rest = absurd (never k refl)
  other_filled f parts (items.Word w) leaves never e rest = refl
  other_filled f parts items.Space leaves never e rest = refl
  other_filled f parts items.Tight leaves never e rest = refl
  other_filled f parts items.Line leaves never e rest = refl
  other_filled f parts items.In leaves never e rest = refl
  other_filled f parts items.Out leaves never e rest = refl
  other_filled f parts (items.Refers s) leaves never e rest = absurd (true≢false e)
  other_filled f parts (items.Declares s) leaves never e rest = absurd (true≢false e)
  other_filled f parts items.Number leaves never e rest = absurd (true≢false e)
  other_filled f parts items.Text leaves never e rest = absurd (true≢false e)

  -- a slot takes a new tree
  pub slot_filled : (f : Fragment) (parts new : List Part) (i : Item) (kind : Kind) (child : Fragment)
      (leaves : List PlainLeaf) → i ≡ items.Slot kind → child ≡ blank def kind
      → new ≡ parts ++ Sub child ∷ [] → (rest : List Item)
      → filled def (with_parts f new) (part_items rest) leaves
      ≡ filled def (with_parts f parts) (part_items (i ∷ rest)) leaves
  slot_filled f parts new i kind child leaves is made more rest =
      ap (λ x. filled def x (part_items rest) leaves)
      (ap (with_parts f) more ∙ with_parts-append f parts (Sub child ∷ [])
      ∙ ap (with_child (with_parts f parts)) made)
      ∙ sym (ap (λ x. filled def (with_parts f parts) (part_items (x ∷ rest)) leaves) is)

  -- the item takes no leaf where there is none
  pub none_filled : (f : Fragment) (parts : List Part) (i : Item) (leaves : List Leaf) (n : ℕ) → has_leaf i ≡ true
      → slice_get leaves n ≡ None
      → (rest : List Item) → filled def (with_parts f parts) (part_items rest) (map plain_leaf (drop n leaves))
      ≡ filled def (with_parts f parts) (part_items (i ∷ rest)) (map plain_leaf (drop n leaves))
  none_filled f parts i leaves n e none rest =
      subst (λ xs. filled def (with_parts f parts) (part_items rest) (map plain_leaf xs)
      ≡ filled def (with_parts f parts) (part_items (i ∷ rest)) (map plain_leaf xs))
      (sym (drop_past leaves n none)) (sym (bare_item i rest (with_parts f parts) e))

  -- the item takes the next leaf
  pub leaf_filled : (f : Fragment) (parts new : List Part) (part : Part) (i : Item) (leaves : List Leaf) (n : ℕ)
      (x : Leaf) → has_leaf i ≡ true → slice_get leaves n ≡ Some x
      → ((g : Fragment) → with_part g part ≡ with_leaf g (plain_leaf x)) → new ≡ parts ++ part ∷ []
      → (rest : List Item) → filled def (with_parts f new) (part_items rest) (map plain_leaf (drop (n + 1) leaves))
      ≡ filled def (with_parts f parts) (part_items (i ∷ rest)) (map plain_leaf (drop n leaves))
  leaf_filled f parts new part i leaves n x e at is more rest =
      ap (λ g. filled def g (part_items rest) (map plain_leaf (drop (n + 1) leaves)))
      (ap (with_parts f) more ∙ with_parts-append f parts (part ∷ []) ∙ is (with_parts f parts))
      ∙ sym (ap (λ xs. filled def (with_parts f parts) (part_items (i ∷ rest)) (map plain_leaf xs))
      (drop_there leaves n x at)
      ∙ leaf_item i rest (with_parts f parts) (plain_leaf x) (map plain_leaf (drop (n + 1) leaves)) e)
