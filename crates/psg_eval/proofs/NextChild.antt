-- What is possible with one more child of an operator is made of what is possible without it and of the child.
use Rattle.std.proofs.Common.{◌≡◌, ◌⊎◌, inl, inr, ℕ, zero, suc, ◌+◌, ◌-◌, ◌≤◌, true, false, cond, List, [], ◌∷◌, ◌++◌, length, Some, refl, ap, ap₂, sym, ◌∙◌, subst, arith, add-one, length-append, true≢false}
use Rattle.std.specs.Prelude.{nat_lt}
use Rattle.std.specs.List.{AllByRecursion, slice_get}
use Rattle.std.proofs.lemmas.Bool.{lt-ltb, le-ltb}
use Rattle.std.proofs.lemmas.Option.{slice_get_within}
use Rattle.psg_terms.specs.Terms.{Term}
use Rattle.psg_terms.specs.Names.{has_twice}
use Rattle.psg_terms.specs.Relations.{IsRelation, IsGlued}
use Rattle.psg_grammar.specs.declared.types.Item.{Item}
use Rattle.psg_grammar.specs.declared.types.Item.TheVariants as items
use Rattle.psg_grammar.specs.declared.types.Definition.{Definition}
use Rattle.psg_grammar.specs.Fragments.{Fragment, hole, ending, cell, operator, with_child, with_name, with_number, with_text, anything, observed, children_of}
use Rattle.psg_grammar.specs.Keys.{in_order}
use Rattle.psg_grammar.specs.Regions.{declared_inside, names_inside, names_of}
use Rattle.psg_grammar.specs.Relations.{IsPossible, IsPossibleInside}
use Rattle.psg_grammar.specs.Steps.{first_children}
use Rattle.psg_scope.specs.Headers.{IsKey}
use Rattle.psg_eval.specs.Trees.{HasParts}
use Rattle.psg_eval.specs.Glues.{outer_names, NextGlue}
use Rattle.psg_eval.proofs.Adding.{added_relation}
use Rattle.psg_eval.proofs.Replacing.{Replaces, here, before_free, before_name, before_number, before_text, behind}

-- an element of a list with one more behind it
pub get_push : {X : Type 0} (xs : List X) (u : X) (n : ℕ) (t : X) → slice_get (xs ++ u ∷ []) n ≡ Some t → (slice_get xs n ≡ Some t) ⊎ ((n ≡ length xs) × (u ≡ t))
get_push [] u zero t e = inr (refl, cc)
get_push [] u (suc n) t e = absurd (cc)
get_push (x ∷ xs) u zero t e = inl e
get_push (x ∷ xs) u (suc n) t e = elim (get_push xs u n t e) [ inl h ↦ inl h | inr h ↦ inr (ap suc h.0, h.1) ]

module _ (def : Definition) where
  -- ---- the steps of an operator

  pub all_there : (n : ℕ) (f : Fragment) (more : List Item) → HasParts def f more → length (children_of f) ≤ n → first_children n f ≡ f
  all_there n (operator o) more h le = refl
  all_there n (with_child f u) more (k, h) le =
      let size = length-append (children_of f) (u ∷ []) in
      let test : nat_lt (length (children_of f)) n ≡ true = lt-ltb (length (children_of f)) n (omega arith) in
      ap₂ with_child (all_there n f (items.Slot k ∷ more) h (omega arith)) (ap (λ b. cond b u anything) test)
  all_there n (with_name f m) more (inl (s, h)) le = ap (λ x. with_name x m) (all_there n f (items.Refers s ∷ more) h le)
  all_there n (with_name f m) more (inr (s, h)) le = ap (λ x. with_name x m) (all_there n f (items.Declares s ∷ more) h le)
  all_there n (with_number f m) more h le = ap (λ x. with_number x m) (all_there n f (items.Number ∷ more) h le)
  all_there n (with_text f m) more h le = ap (λ x. with_text x m) (all_there n f (items.Text ∷ more) h le)
  all_there n (hole p) more h le = absurd h
  all_there n (ending l u) more h le = absurd h
  all_there n (cell l e r) more h le = absurd h
  all_there n anything more h le = absurd h
  all_there n (observed f) more h le = absurd h

  -- from a step to the next one, the child takes the place of the first free value
  abbrev pub Adds : Fragment → ℕ → Fragment → Fragment → ℕ → Type 0
  Adds t n a b count = (r : Replaces def t a b) × (behind def t r + suc n ≡ count)

  pub adds : (t f : Fragment) (more : List Item) (n : ℕ) → HasParts def f more → slice_get (children_of f) n ≡ Some t
      → Adds t n (first_children n f) (first_children (suc n) f) (length (children_of f))
  adds t (operator o) more n h e = absurd (cc)
  adds t (with_child f u) more n (k, h) e =
      let size = length-append (children_of f) (u ∷ []) in
      elim (get_push (children_of f) u n t e) [
        | inl i ↦
            let lt = slice_get_within (children_of f) n t i in
            let one : nat_lt (length (children_of f)) n ≡ false = le-ltb (length (children_of f)) n (omega arith) in
            let two : nat_lt (length (children_of f)) (suc n) ≡ false = le-ltb (length (children_of f)) (suc n) (omega arith) in
            let (r, d) = adds t f (items.Slot k ∷ more) n h i in
            subst (λ b. Adds t n (with_child (first_children n f) (cond b u anything)) (with_child (first_children (suc n) f) (cond (nat_lt (length (children_of f)) (suc n)) u anything)) (length (children_of f ++ u ∷ []))) (sym one)
            (subst (λ b. Adds t n (with_child (first_children n f) anything) (with_child (first_children (suc n) f) (cond b u anything)) (length (children_of f ++ u ∷ []))) (sym two)
            (before_free r, omega arith))
        | inr i ↦
            let at = i.0 in
            let one : nat_lt (length (children_of f)) n ≡ false = le-ltb (length (children_of f)) n (omega arith) in
            let two : nat_lt (length (children_of f)) (suc n) ≡ true = lt-ltb (length (children_of f)) (suc n) (omega arith) in
            subst (λ x. Adds t n x (first_children (suc n) (with_child f u)) (length (children_of f ++ u ∷ [])))
            (sym (ap₂ with_child (all_there n f (items.Slot k ∷ more) h (omega arith)) (ap (λ b. cond b u anything) one)))
            (subst (λ x. Adds t n (with_child f anything) x (length (children_of f ++ u ∷ [])))
            (sym (ap₂ with_child (all_there (suc n) f (items.Slot k ∷ more) h (omega arith)) (ap (λ b. cond b u anything) two ∙ i.1)))
            (here, omega arith))
      ]
  adds t (with_name f m) more n (inl (s, h)) e = let (r, d) = adds t f (items.Refers s ∷ more) n h e in (before_name m r, d)
  adds t (with_name f m) more n (inr (s, h)) e = let (r, d) = adds t f (items.Declares s ∷ more) n h e in (before_name m r, d)
  adds t (with_number f m) more n h e = let (r, d) = adds t f (items.Number ∷ more) n h e in (before_number m r, d)
  adds t (with_text f m) more n h e = let (r, d) = adds t f (items.Text ∷ more) n h e in (before_text m r, d)
  adds t (hole p) more n h e = absurd h
  adds t (ending l u) more n h e = absurd h
  adds t (cell l u v) more n h e = absurd h
  adds t anything more n h e = absurd h
  adds t (observed f) more n h e = absurd h

  -- ---- relations

  abbrev pub first_keys : ℕ → Fragment → List (List ℕ)
  first_keys n f = in_order (names_inside def (first_children n f))

  -- `before` is how many values are reported by the first n children. It is read off the width of the rows, which have the
  -- value, these values, a wanted value for each other child, and the keys.
  pub next_child : (f t : Fragment) (n before : ℕ) (ls rs ss : List ℕ) (rows others made : List (List Term))
      → HasParts def f [] → slice_get (children_of f) n ≡ Some t
      → AllByRecursion IsKey (names_inside def (first_children n f)) → AllByRecursion IsKey (outer_names def t)
      → length ls ≡ 1 + before + (length (children_of f) - n) + length (first_keys n f)
      → has_twice (declared_inside def (first_children (n + 1) f)) ≡ false
      → IsRelation def.signature ls (IsPossibleInside def (first_children n f)) rows
      → IsRelation def.signature rs (IsPossible def t) others
      → IsRelation def.signature ss (IsGlued def.signature (NextGlue before (first_keys n f) (names_of def t) (first_keys (n + 1) f)) rows others) made
      → IsRelation def.signature ss (IsPossibleInside def (first_children (n + 1) f)) made
  next_child f t n before ls rs ss rows others made parts at whole child width =
      let (r, count) = adds t f [] n parts at in
      let size : length ls ≡ 1 + before + (1 + behind def t r) + length (first_keys n f) = omega arith in
      subst (λ m. has_twice (declared_inside def (first_children m f)) ≡ false
      → IsRelation def.signature ls (IsPossibleInside def (first_children n f)) rows
      → IsRelation def.signature rs (IsPossible def t) others
      → IsRelation def.signature ss (IsGlued def.signature (NextGlue before (first_keys n f) (names_of def t) (first_keys m f)) rows others) made
      → IsRelation def.signature ss (IsPossibleInside def (first_children m f)) made) (sym (add-one n))
      (added_relation def t (first_children n f) (first_children (suc n) f) r before whole child ls rs ss rows others made size)

  -- where a key is declared twice, nothing is possible
  pub twice_empty : (f : Fragment) (ss : List ℕ) → has_twice (declared_inside def f) ≡ true → IsRelation def.signature ss (IsPossibleInside def f) []
  twice_empty f ss twice = record {
    shapes = λ row h. elim h [ ];
    covers = λ c x p. absurd (true≢false (sym twice ∙ p.distinct.0));
    apart = λ row other h. elim h [ ];
    once = tt;
    order = tt;
  }
