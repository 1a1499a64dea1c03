-- The names of a new operator, and of a fragment with it.
use Rattle.std.proofs.Common.{◌≡◌, ◌⊎◌, inl, inr, ℕ, zero, suc, ◌==◌, Bool, true, false, cond, List, [], ◌∷◌, ◌++◌, length, Option, Some, None, refl, ap, sym, ◌∙◌, append_assoc, append-nil, arith}
use Rattle.std.specs.List.{AllByRecursion}
use Rattle.std.proofs.lemmas.Str.{IsUtf8-nil}
use Rattle.std.proofs.lemmas.Bool.{or_cases, or_right, or_left}
use Rattle.psg_terms.specs.Names.{Name, is_among}
use Rattle.psg_terms.proofs.DeclareLaws.{is_among-append}
use Rattle.psg_grammar.specs.declared.types.Kind.{Kind}
use Rattle.psg_grammar.specs.declared.types.Kind.TheVariants as kinds
use Rattle.psg_grammar.specs.declared.types.Item.{Item}
use Rattle.psg_grammar.specs.declared.types.Item.TheVariants as items
use Rattle.psg_grammar.specs.declared.types.Definition.{Definition}
use Rattle.psg_grammar.specs.Fragments.{Fragment, hole, ending, cell, operator, with_child, with_name, with_number, with_text, anything, observed, children_of}
use Rattle.psg_grammar.specs.Insertion.{Leaf, a_name, a_number, a_text, AreLeaves, blank, filled, fresh_operator, with_operator}
use Rattle.psg_grammar.specs.Lookups.{operator_at, items_of, part_items}
use Rattle.psg_grammar.specs.Paths.{Path, change_child, change_at, inserted}
use Rattle.psg_grammar.specs.WellFormed.{IsName}
use Rattle.psg_renaming.specs.Occurring.{occurring, leaf_names}

-- how many names the items take
abbrev pub names_count : List Item → ℕ
names_count [] = 0
names_count (items.Refers s ∷ rest) = suc (names_count rest)
names_count (items.Declares s ∷ rest) = suc (names_count rest)
names_count (_ ∷ rest) = names_count rest

module _ (def : Definition) where
  -- leaves with these names, and with the number 0 or the empty text for each literal
  pub record WithNames (is : List Item) (names : List Name) : Type 0 where
    pub leaves : List Leaf
    pub are_leaves : AreLeaves def (part_items is) leaves
    pub named : leaf_names leaves ≡ names

  pub fresh_leaves : (is : List Item) (names : List Name) → AllByRecursion (IsName def) names
      → names_count is ≡ length names
      → WithNames is names
  fresh_leaves [] [] h e = record { leaves = []; are_leaves = tt; named = refl }
  fresh_leaves [] (n ∷ names) h e = absurd (omega (arith, e))
  fresh_leaves (items.Refers s ∷ is) [] h e = absurd (omega (arith, e))
  fresh_leaves (items.Refers s ∷ is) (n ∷ names) (one, all) e =
      let more = fresh_leaves is names all (omega (arith, e)) in
      record {
        leaves = a_name n ∷ more.leaves;
        are_leaves = (one, more.are_leaves);
        named = ap
            (λ ns. n ∷ ns) more.named;
      }
  fresh_leaves (items.Declares s ∷ is) [] h e = absurd (omega (arith, e))
  fresh_leaves (items.Declares s ∷ is) (n ∷ names) (one, all) e =
      let more = fresh_leaves is names all (omega (arith, e)) in
      record {
        leaves = a_name n ∷ more.leaves;
        are_leaves = (one, more.are_leaves);
        named = ap
            (λ ns. n ∷ ns) more.named;
      }
  fresh_leaves (items.Number ∷ is) names h e =
      let more = fresh_leaves is names h e in
      record { leaves = a_number 0 ∷ more.leaves; are_leaves = (omega arith, more.are_leaves); named = more.named }
  fresh_leaves (items.Text ∷ is) names h e =
      let more = fresh_leaves is names h e in
      record { leaves = a_text [] ∷ more.leaves; are_leaves = (IsUtf8-nil, more.are_leaves); named = more.named }
  fresh_leaves (_ ∷ is) names h e =
      let more = fresh_leaves is names h e in
      record { leaves = more.leaves; are_leaves = more.are_leaves; named = more.named }

  -- ---- the names of the operator are those of its leaves

  blank_names : (kind : Kind) → occurring (blank def kind) ≡ []
  blank_names (kinds.Phylum q) = refl
  blank_names (kinds.List l) = refl

  filled_names : (is : List Item) (f : Fragment) (leaves : List Leaf) → AreLeaves def is leaves
      → occurring (filled def f is leaves) ≡ occurring f ++ leaf_names leaves
  filled_names [] f [] a = sym (append-nil (occurring f))
  filled_names [] f (x ∷ leaves) a = absurd a
  filled_names (items.Slot k ∷ rest) f leaves a =
      filled_names rest (with_child f (blank def k)) leaves a
      ∙ ap (λ ns. (occurring f ++ ns) ++ leaf_names leaves) (blank_names k)
      ∙ ap (λ ns. ns ++ leaf_names leaves) (append-nil (occurring f))
  filled_names (items.Refers s ∷ rest) f (a_name n ∷ leaves) (_, a) =
      filled_names rest (with_name f n) leaves a ∙ append_assoc (occurring f) (n ∷ []) (leaf_names leaves)
  filled_names (items.Declares s ∷ rest) f (a_name n ∷ leaves) (_, a) =
      filled_names rest (with_name f n) leaves a ∙ append_assoc (occurring f) (n ∷ []) (leaf_names leaves)
  filled_names (items.Number ∷ rest) f (a_number n ∷ leaves) (_, a) = filled_names rest (with_number f n) leaves a
  filled_names (items.Text ∷ rest) f (a_text t ∷ leaves) (_, a) = filled_names rest (with_text f t) leaves a
  filled_names _ f leaves a = absurd a

  pub fresh_written : (o : ℕ) (leaves : List Leaf) → AreLeaves def (items_of (operator_at def o)) leaves
      → occurring (fresh_operator def o leaves) ≡ leaf_names leaves
  fresh_written o leaves a = filled_names (items_of (operator_at def o)) (operator o) leaves a

-- ---- the names of a fragment with one more operator are its own or those of the leaves

module _ (new : List Name) (n : Name) where
  abbrev IsOf : List Name → Type 0
  IsOf names = (is_among names n ≡ true) ⊎ (is_among new n ≡ true)

  abbrev Adds : (Fragment → Fragment) → Type 0
  Adds g = (t : Fragment) → is_among (occurring (g t)) n ≡ true → IsOf (occurring t)

  left_of : (xs ys : List Name) → IsOf xs → IsOf (xs ++ ys)
  left_of xs ys (inl e) = inl (is_among-append xs ys n ∙ or_left (is_among xs n) (is_among ys n) e)
  left_of xs ys (inr e) = inr e

  right_of : (xs ys : List Name) → IsOf ys → IsOf (xs ++ ys)
  right_of xs ys (inl e) = inl (is_among-append xs ys n ∙ or_right (is_among xs n) (is_among ys n) e)
  right_of xs ys (inr e) = inr e

  -- a name of two parts is one of the first or of the second
  parts : (xs ys as_xs as_ys : List Name) → is_among (xs ++ ys) n ≡ true → (is_among xs n ≡ true → IsOf as_xs)
      → (is_among ys n ≡ true → IsOf as_ys) → IsOf (as_xs ++ as_ys)
  parts xs ys as_xs as_ys e one two =
      elim (or_cases (is_among xs n) (is_among ys n) (sym (is_among-append xs ys n) ∙ e)) [
        | inl a ↦ left_of as_xs as_ys (one a)
        | inr b ↦ right_of as_xs as_ys (two b)
      ]

  child_adds : (g : Fragment → Fragment) → Adds g → (k : ℕ) → Adds (change_child g k)
  child_adds g h k (hole q) e = inl e
  child_adds g h k (ending l u) e = inl e
  child_adds g h zero (cell l c r) e = parts (occurring (g c)) (occurring r) (occurring c) (occurring r) e (h c) inl
  child_adds g h (suc k) (cell l c r) e =
      parts (occurring c) (occurring (change_child g k r)) (occurring c) (occurring r) e inl (child_adds g h k r)
  child_adds g h k (operator o) e = inl e
  child_adds g h k (with_child f t) e = by (length (children_of f) == k) (child_adds g h k f) e where
    by : (b : Bool) → (is_among (occurring (change_child g k f)) n ≡ true → IsOf (occurring f))
        → is_among (occurring (cond b (with_child f (g t)) (with_child (change_child g k f) t))) n ≡ true
        → IsOf (occurring f ++ occurring t)
    by true below e = parts (occurring f) (occurring (g t)) (occurring f) (occurring t) e inl (h t)
    by false below e = parts (occurring (change_child g k f)) (occurring t) (occurring f) (occurring t) e below inl
  child_adds g h k (with_name f m) e =
      parts (occurring (change_child g k f)) (m ∷ []) (occurring f) (m ∷ []) e (child_adds g h k f) inl
  child_adds g h k (with_number f m) e = child_adds g h k f e
  child_adds g h k (with_text f t) e = child_adds g h k f e
  child_adds g h k anything e = inl e
  child_adds g h k (observed f) e = child_adds g h k f e

  at_adds : (g : Fragment → Fragment) → Adds g → (path : Path) → Adds (change_at g path)
  at_adds g h [] t e = h t e
  at_adds g h (k ∷ path) t e = child_adds (change_at g path) (at_adds g h path) k t e

  inserted_adds : (x : Fragment) → (is_among (occurring x) n ≡ true → is_among new n ≡ true) → (k : ℕ)
      → Adds (inserted k x)
  inserted_adds x h zero (ending l u) e = parts (occurring x) [] [] [] e (λ a. inr (h a)) inl
  inserted_adds x h zero (cell l c r) e =
      parts (occurring x) (occurring (cell l c r)) [] (occurring (cell l c r)) e (λ a. inr (h a)) inl
  inserted_adds x h (suc k) (cell l c r) e =
      parts (occurring c) (occurring (inserted k x r)) (occurring c) (occurring r) e inl (inserted_adds x h k r)
  inserted_adds x h (suc k) (ending l u) e = inl e
  inserted_adds x h zero t e = inl e
  inserted_adds x h (suc k) t e = inl e

pub name_written : (def : Definition) (f : Fragment) (path : Path) (k : Option ℕ) (o : ℕ) (leaves : List Leaf)
    → AreLeaves def (items_of (operator_at def o)) leaves → (n : Name)
    → is_among (occurring (with_operator def f path k o leaves)) n ≡ true
    → (is_among (occurring f) n ≡ true) ⊎ (is_among (leaf_names leaves) n ≡ true)
name_written def f path None o leaves a n e =
    at_adds (leaf_names leaves) n (λ old. fresh_operator def o leaves)
    (λ t d. inr (ap (λ ns. is_among ns n) (sym (fresh_written def o leaves a)) ∙ d)) path f e
name_written def f path (Some k) o leaves a n e =
    at_adds (leaf_names leaves) n (inserted k (fresh_operator def o leaves))
    (inserted_adds (leaf_names leaves) n (fresh_operator def o leaves)
    (λ d. ap (λ ns. is_among ns n) (sym (fresh_written def o leaves a)) ∙ d) k) path f e
