-- What depends on no names and literals is the same for all new names.
use Rattle.std.proofs.Common.{◌≡◌, inl, inr, ℕ, suc, true, false, ◌||◌, List, [], ◌∷◌, length, bytes_eq, refl, ap, ap₂, sym, ◌∙◌, subst, true≢false, arith, ◌≤◌, encode_utf8_all}
use Rattle.std.proofs.lemmas.Str.{length-le-encodes}
use Rattle.std.proofs.lemmas.Bool.{false_from_ne_true, or_cases, or_right, or_left}
use Rattle.std.specs.List.{AllByRecursion}
use Rattle.psg_terms.specs.Names.{Name, is_among}
use Rattle.psg_terms.specs.Words.{IsWord}
use Rattle.psg_scope.proofs.KeyLists.{key_is, key_refl}
use Rattle.psg_grammar.specs.declared.types.Item.{Item}
use Rattle.psg_grammar.specs.declared.types.Item.TheVariants as items
use Rattle.psg_grammar.specs.declared.types.Definition.{Definition}
use Rattle.psg_grammar.specs.Fragments.{Fragment}
use Rattle.psg_grammar.specs.Insertion.{Leaf, a_name, a_number, a_text, AreLeaves, with_operator}
use Rattle.psg_grammar.specs.Lookups.{operator_at, items_of}
use Rattle.psg_grammar.specs.WellFormed.{IsName}
use Rattle.psg_renaming.specs.NewNames.{HoldsForNewNames}
use Rattle.psg_renaming.specs.Occurring.{occurring, leaf_names}
use Rattle.psg_renaming.proofs.Permuting.{Permutation, takes}
use Rattle.psg_renaming.proofs.Turned.{turned}
use Rattle.psg_renaming.proofs.Inserted.{unchanged, with_turned}

module _ (def : Definition) where
  -- as many names for the same items
  pub same_length : (is : List Item) (one two : List Leaf) → AreLeaves def is one → AreLeaves def is two
      → length (leaf_names one) ≡ length (leaf_names two)
  same_length [] [] [] a b = refl
  same_length [] [] (y ∷ two) a b = absurd b
  same_length [] (x ∷ one) two a b = absurd a
  same_length (items.Slot k ∷ rest) one two a b = same_length rest one two a b
  same_length (items.Refers s ∷ rest) (a_name n ∷ one) (a_name m ∷ two) (_, a) (_, b) =
      ap suc (same_length rest one two a b)
  same_length (items.Declares s ∷ rest) (a_name n ∷ one) (a_name m ∷ two) (_, a) (_, b) =
      ap suc (same_length rest one two a b)
  same_length (items.Number ∷ rest) (a_number n ∷ one) (a_number m ∷ two) (_, a) (_, b) = same_length rest one two a b
  same_length (items.Text ∷ rest) (a_text n ∷ one) (a_text m ∷ two) (_, a) (_, b) = same_length rest one two a b
  same_length (items.Refers s ∷ rest) (a_name n ∷ one) two a b = absurd b
  same_length (items.Declares s ∷ rest) (a_name n ∷ one) two a b = absurd b
  same_length (items.Number ∷ rest) (a_number n ∷ one) two a b = absurd b
  same_length (items.Text ∷ rest) (a_text n ∷ one) two a b = absurd b
  same_length _ one two a b = absurd a

  -- they are names, so none is empty
  pub all_names : (is : List Item) (leaves : List Leaf) → AreLeaves def is leaves
      → AllByRecursion (IsName def) (leaf_names leaves)
  all_names [] [] a = tt
  all_names [] (x ∷ leaves) a = absurd a
  all_names (items.Slot k ∷ rest) leaves a = all_names rest leaves a
  all_names (items.Refers s ∷ rest) (a_name n ∷ leaves) (w, a) = (w, all_names rest leaves a)
  all_names (items.Declares s ∷ rest) (a_name n ∷ leaves) (w, a) = (w, all_names rest leaves a)
  all_names (items.Number ∷ rest) (a_number n ∷ leaves) (_, a) = all_names rest leaves a
  all_names (items.Text ∷ rest) (a_text t ∷ leaves) (_, a) = all_names rest leaves a
  all_names _ leaves a = absurd a

-- ---- what is new to some names

-- no name of the one list is among the others
fresh_away : (used names : List Name) (n : Name) → AllByRecursion (λ m. is_among used m ≡ false) names
    → is_among used n ≡ true → is_among names n ≡ false
fresh_away used names n h u = false_from_ne_true (is_among names n) (λ e. away names h e) where
  away : (ns : List Name) → AllByRecursion (λ m. is_among used m ≡ false) ns → is_among ns n ≡ true → ⊥
  away [] a e = true≢false (sym e)
  away (m ∷ ns) (a, as_well) e = elim (or_cases (bytes_eq m n) (is_among ns n) e) [
    | inl same ↦ true≢false (sym u ∙ subst (λ k. is_among used k ≡ false) (key_is m n same) a)
    | inr later ↦ away ns as_well later
  ]

among_first : (m : Name) (ms : List Name) → is_among (m ∷ ms) m ≡ true
among_first m ms = or_left (bytes_eq m m) (is_among ms m) (key_refl m)

each_among : (P : Name → Type 0) (ms : List Name) → ((n : Name) → is_among ms n ≡ true → P n) → AllByRecursion P ms
each_among P [] k = tt
each_among P (m ∷ ms) k =
    (k m (among_first m ms), each_among P ms (λ n e. k n (or_right (bytes_eq m n) (is_among ms n) e)))

-- the empty list is no name
module _ (def : Definition) where
  nothing : (cs : List ℕ) → ◌≡◌ {A = Name} [] (encode_utf8_all cs) → IsWord cs → ⊥
  nothing [] e w = w
  nothing (c ∷ cs) e w =
      let much : suc (length cs) ≤ length (encode_utf8_all (c ∷ cs)) = length-le-encodes (c ∷ cs) in
      let none : 0 ≡ length (encode_utf8_all (c ∷ cs)) = ap length e in
      absurd (omega (arith, much, none))

  pub no_word : (n : Name) → IsName def n → bytes_eq n [] ≡ false
  no_word [] (cs, e, w, f) = absurd (nothing cs e w)
  no_word (c ∷ n) w = refl

  not_empty : (ns : List Name) → AllByRecursion (IsName def) ns → is_among ns [] ≡ false
  not_empty [] h = refl
  not_empty (n ∷ ns) (w, h) = ap₂ (λ a b. a || b) (no_word n w) (not_empty ns h)

  -- What holds of a tree exactly where it holds of the tree with other names, of which the empty list is none, holds
  -- for all new names or for none.
  module _ (P : Fragment → Type 0) (to : (p : Permutation) → p.to [] ≡ [] → (t : Fragment) → P t → P (turned p t)) (from : (p : Permutation) → p.to [] ≡ [] → (t : Fragment) → P (turned p t) → P t) where
    pub for_new_names : HoldsForNewNames def P
    for_new_names f path k o one two a b (once_one, new_one) (once_two, new_two) holds =
        let is = items_of (operator_at def o) in
        let t = takes (leaf_names one) (leaf_names two) once_one once_two (same_length def is one two a b) in
        let empty : t.names.to [] ≡ [] = t.fixes [] (not_empty (leaf_names one) (all_names def is one a))
        (not_empty (leaf_names two) (all_names def is two b)) in
        let kept = each_among (λ n. t.names.to n ≡ n) (occurring f)
        (λ n e. t.fixes n (fresh_away (occurring f) (leaf_names one) n new_one e)
        (fresh_away (occurring f) (leaf_names two) n new_two e)) in
        let same = with_turned t.names def f path k o one two kept a b t.maps in
        from unchanged refl (with_operator def f path k o two)
        (subst P same (to t.names empty (with_operator def f path k o one) holds))
