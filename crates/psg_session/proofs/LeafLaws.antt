-- Which leaves an operator's items take, leaf by leaf.
use Rattle.std.proofs.Common.{◌≡◌, ◌↔◌, inl, inr, ℕ, zero, suc, ◌+◌, ◌<◌, ◌≤◌, ◌==◌, true, false, true≢false, List, [], ◌∷◌, length, drop, map, Option, Some, None, IfNone, slice_get, refl, sym, ◌∙◌, ap, subst, arith}
use Rattle.std.specs.List.{AllByRecursion}
use Rattle.std.proofs.lemmas.Bool.Decides.{eqb_tells}
use Rattle.std.proofs.lemmas.List.{drop_all, length-drop}
use Rattle.std.proofs.lemmas.Option.{none-some, slice_get_within}
use Rattle.psg_terms.proofs.Lists.{drop_there}
use Rattle.psg_grammar.specs.declared.types.Item.{Item}
use Rattle.psg_grammar.specs.declared.types.Item.TheVariants as items
use Rattle.psg_grammar.specs.declared.types.Definition.{Definition}
use Rattle.psg_grammar.specs.Insertion.{AreLeaves, Leaf as PlainLeaf, a_name, a_number, a_text}
use Rattle.psg_grammar.specs.Lookups.{part_items}
use Rattle.psg_session.specs.declared.leaves.Leaf.{Leaf}
use Rattle.psg_session.specs.Leaves.{HasWord}
use Rattle.psg_session.specs.LeafItems.{has_leaf, Suits, IsNextLeaf}
use Rattle.psg_session.specs.Views.{plain_leaf}

pub none_in : {X : Type 0} (P : Type 0) (o : Option X) → o ≡ None → IfNone o P → P
none_in P o is h = subst (λ q. IfNone q P) is h

-- nothing is left from a place without an element
pub drop_past : {X : Type 0} (xs : List X) (n : ℕ) → slice_get xs n ≡ None → drop n xs ≡ []
drop_past [] zero e = refl
drop_past [] (suc n) e = refl
drop_past (x ∷ xs) zero e = absurd (none-some x (sym e))
drop_past (x ∷ xs) (suc n) e = drop_past xs n e

drop_from : {X : Type 0} (xs : List X) (n : ℕ) (x : X) → slice_get xs n ≡ Some x → drop n xs ≡ x ∷ drop (suc n) xs
drop_from [] n x e = absurd (none-some x e)
drop_from (y ∷ xs) zero x e = let d : Some y ≡ Some x = e in let same : y ≡ x = cc in ap (λ z. z ∷ xs) same
drop_from (y ∷ xs) (suc n) x e = drop_from xs n x e

-- the word of the leaf at a place
pub word_at : (leaves : List Leaf) (n : ℕ) (x : Leaf) → slice_get leaves n ≡ Some x
    → AllByRecursion HasWord (map plain_leaf leaves) → HasWord (plain_leaf x)
word_at [] n x e h = absurd (none-some x e)
word_at (y ∷ leaves) zero x e h = let d : Some y ≡ Some x = e in let same : y ≡ x = cc in
    subst (λ z. HasWord (plain_leaf z)) same h.0
word_at (y ∷ leaves) (suc n) x e h = word_at leaves n x e h.1

module _ (def : Definition) where
  -- an item that takes a leaf, at the first of some
  leaf_more : (i : Item) (rest : List Item) (x : PlainLeaf) (xs : List PlainLeaf) → has_leaf i ≡ true
      → AreLeaves def (part_items (i ∷ rest)) (x ∷ xs) ↔ (Suits def i x × AreLeaves def (part_items rest) xs)
  leaf_more (items.Refers s) rest (a_name n) xs e = (λ h. h, λ h. h)
  leaf_more (items.Refers s) rest (a_number n) xs e = (λ h. absurd h, λ h. absurd h.0)
  leaf_more (items.Refers s) rest (a_text t) xs e = (λ h. absurd h, λ h. absurd h.0)
  leaf_more (items.Declares s) rest (a_name n) xs e = (λ h. h, λ h. h)
  leaf_more (items.Declares s) rest (a_number n) xs e = (λ h. absurd h, λ h. absurd h.0)
  leaf_more (items.Declares s) rest (a_text t) xs e = (λ h. absurd h, λ h. absurd h.0)
  leaf_more items.Number rest (a_name n) xs e = (λ h. absurd h, λ h. absurd h.0)
  leaf_more items.Number rest (a_number n) xs e = (λ h. h, λ h. h)
  leaf_more items.Number rest (a_text t) xs e = (λ h. absurd h, λ h. absurd h.0)
  leaf_more items.Text rest (a_name n) xs e = (λ h. absurd h, λ h. absurd h.0)
  leaf_more items.Text rest (a_number n) xs e = (λ h. absurd h, λ h. absurd h.0)
  leaf_more items.Text rest (a_text t) xs e = (λ h. h, λ h. h)
  leaf_more (items.Slot k) rest x xs e = absurd (true≢false (sym e))
  leaf_more (items.Word w) rest x xs e = absurd (true≢false (sym e))
  leaf_more items.Space rest x xs e = absurd (true≢false (sym e))
  leaf_more items.Tight rest x xs e = absurd (true≢false (sym e))
  leaf_more items.Line rest x xs e = absurd (true≢false (sym e))
  leaf_more items.In rest x xs e = absurd (true≢false (sym e))
  leaf_more items.Out rest x xs e = absurd (true≢false (sym e))

  -- it takes one
  leaf_missing : (i : Item) (rest : List Item) → has_leaf i ≡ true → AreLeaves def (part_items (i ∷ rest)) [] → ⊥
  leaf_missing (items.Refers s) rest e h = h
  leaf_missing (items.Declares s) rest e h = h
  leaf_missing items.Number rest e h = h
  leaf_missing items.Text rest e h = h
  leaf_missing (items.Slot k) rest e h = true≢false (sym e)
  leaf_missing (items.Word w) rest e h = true≢false (sym e)
  leaf_missing items.Space rest e h = true≢false (sym e)
  leaf_missing items.Tight rest e h = true≢false (sym e)
  leaf_missing items.Line rest e h = true≢false (sym e)
  leaf_missing items.In rest e h = true≢false (sym e)
  leaf_missing items.Out rest e h = true≢false (sym e)

  -- another item takes none
  leaf_skipped : (i : Item) (rest : List Item) (xs : List PlainLeaf) → has_leaf i ≡ false
      → AreLeaves def (part_items (i ∷ rest)) xs ↔ AreLeaves def (part_items rest) xs
  leaf_skipped (items.Slot k) rest xs e = (λ h. h, λ h. h)
  leaf_skipped (items.Word w) rest xs e = (λ h. h, λ h. h)
  leaf_skipped items.Space rest xs e = (λ h. h, λ h. h)
  leaf_skipped items.Tight rest xs e = (λ h. h, λ h. h)
  leaf_skipped items.Line rest xs e = (λ h. h, λ h. h)
  leaf_skipped items.In rest xs e = (λ h. h, λ h. h)
  leaf_skipped items.Out rest xs e = (λ h. h, λ h. h)
  leaf_skipped (items.Refers s) rest xs e = absurd (true≢false e)
  leaf_skipped (items.Declares s) rest xs e = absurd (true≢false e)
  leaf_skipped items.Number rest xs e = absurd (true≢false e)
  leaf_skipped items.Text rest xs e = absurd (true≢false e)

  -- ---- the next leaf

  pub none_taken : (leaves : List Leaf) (n : ℕ) (i : Item) → n ≤ length leaves → has_leaf i ≡ false
      → IsNextLeaf def leaves n i (Some n)
  none_taken leaves n i le e = (le, λ rest. leaf_skipped i rest (map plain_leaf (drop n leaves)) e)

  pub none_left : (leaves : List Leaf) (n : ℕ) (i : Item) → has_leaf i ≡ true → slice_get leaves n ≡ None
      → IsNextLeaf def leaves n i None
  none_left leaves n i e at =
      λ rest h. leaf_missing i rest e
      (subst (λ xs. AreLeaves def (part_items (i ∷ rest)) (map plain_leaf xs)) (drop_past leaves n at) h)

  module _ (leaves : List Leaf) (n : ℕ) (i : Item) (x : Leaf) (e : has_leaf i ≡ true)
      (at : slice_get leaves n ≡ Some x) where
    at_leaf : (rest : List Item) → AreLeaves def (part_items (i ∷ rest)) (map plain_leaf (drop n leaves))
        ↔ (Suits def i (plain_leaf x) × AreLeaves def (part_items rest) (map plain_leaf (drop (n + 1) leaves)))
    at_leaf rest =
        let more = leaf_more i rest (plain_leaf x) (map plain_leaf (drop (n + 1) leaves)) e in
        let same : drop n leaves ≡ x ∷ drop (n + 1) leaves = drop_there leaves n x at in (
          λ h. more.0 (subst (λ xs. AreLeaves def (part_items (i ∷ rest)) (map plain_leaf xs)) same h),
          λ h. subst (λ xs. AreLeaves def (part_items (i ∷ rest)) (map plain_leaf xs)) (sym same) (more.1 h),
        )

    pub one_taken : Suits def i (plain_leaf x) → IsNextLeaf def leaves n i (Some (n + 1))
    one_taken suits = (
      omega (arith, slice_get_within leaves n x at),
      λ rest. (λ h. ((at_leaf rest).0 h).1, λ h. (at_leaf rest).1 (suits, h)),
    )

    pub one_refused : (Suits def i (plain_leaf x) → ⊥) → IsNextLeaf def leaves n i None
    one_refused never = λ rest h. never ((at_leaf rest).0 h).0

  -- no item is left
  pub leaves_end : (leaves : List Leaf) (n : ℕ) → n ≤ length leaves
      → (n == length leaves ≡ true → AreLeaves def [] (map plain_leaf (drop n leaves)))
      × (AreLeaves def [] (map plain_leaf (drop n leaves)) → n == length leaves ≡ true)
  leaves_end leaves n h = (
    λ e. subst (λ xs. AreLeaves def [] (map plain_leaf xs)) (sym (drop_all n leaves (at_end e))) tt,
    λ f. elim (eqb_tells n (length leaves))
        [ inl q ↦ q.0 | inr q ↦ absurd (left (drop n leaves) f (omega (arith, length-drop n leaves, h, q.1))) ],
  ) where
    at_end : n == length leaves ≡ true → length leaves ≤ n
    at_end e =
        elim (eqb_tells n (length leaves)) [ inl q ↦ omega (arith, q.1) | inr q ↦ absurd (true≢false (sym e ∙ q.0)) ]

    left : (xs : List Leaf) → AreLeaves def [] (map plain_leaf xs) → 0 < length xs → ⊥
    left [] f h = absurd (omega (arith, h))
    left (x ∷ xs) f h = f
