-- The steps of a tree with other names pass the limit where those of the tree do.
use Rattle.std.proofs.Common.{◌≡◌, ℕ, zero, suc, ◌+◌, ◌≤◌, Bool, true, false, cond, nat_lt, List, [], ◌∷◌, ◌++◌, map, length, refl, ap, ap₂, sym, ◌∙◌, subst}
use Rattle.std.proofs.lemmas.List.{map-append, length-map}
use Rattle.psg_terms.specs.Relations.{IsIn, IsRelation}
use Rattle.psg_relation.proofs.Members.{in-map, map-in}
use Rattle.psg_grammar.specs.declared.types.Definition.{Definition}
use Rattle.psg_grammar.specs.Fragments.{Fragment, hole, ending, cell, operator, with_child, with_name, with_number, with_text, anything, observed, children_of}
use Rattle.psg_grammar.specs.Relations.{IsPossibleInside}
use Rattle.psg_grammar.specs.Sound.{IsSound}
use Rattle.psg_grammar.specs.Steps.{first_children, children_count, last_step, adding, closing, PassesAt, Place, steps_up_to, own_steps, list_steps, steps_of, steps_below, IsWide}
use Rattle.psg_relation.specs.Fewer.{FewerColumns}
use Rattle.psg_renaming.proofs.Permuting.{Permutation}
use Rattle.psg_renaming.proofs.Turned.{turned, same_scope}
use Rattle.psg_renaming.proofs.Relating.{inside_to, inside_from, whole_to, whole_from}

module _ (p : Permutation) where
  pub children_turned : (f : Fragment) → children_of (turned p f) ≡ map (turned p) (children_of f)
  children_turned (hole q) = refl
  children_turned (ending l u) = refl
  children_turned (cell l e r) = ap (λ cs. turned p e ∷ cs) (children_turned r)
  children_turned (operator o) = refl
  children_turned (with_child f t) =
      ap (λ cs. cs ++ turned p t ∷ []) (children_turned f) ∙ sym (map-append (turned p) (children_of f) (t ∷ []))
  children_turned (with_name f n) = children_turned f
  children_turned (with_number f n) = children_turned f
  children_turned (with_text f t) = children_turned f
  children_turned anything = refl
  children_turned (observed f) = children_turned f

  length_turned : (f : Fragment) → length (children_of (turned p f)) ≡ length (children_of f)
  length_turned f = ap length (children_turned f) ∙ length-map (children_of f) (turned p)

  count_turned : (f : Fragment) → children_count (turned p f) ≡ children_count f
  count_turned (hole q) = refl
  count_turned (ending l u) = refl
  count_turned (cell l e r) = refl
  count_turned (operator o) = refl
  count_turned (with_child f t) = length_turned (with_child f t)
  count_turned (with_name f n) = length_turned f
  count_turned (with_number f n) = length_turned f
  count_turned (with_text f t) = length_turned f
  count_turned anything = refl
  count_turned (observed f) = count_turned f

  turned_by : (b : Bool) (t : Fragment) → cond b (turned p t) anything ≡ turned p (cond b t anything)
  turned_by true t = refl
  turned_by false t = refl

  first_turned : (n : ℕ) (f : Fragment) → first_children n (turned p f) ≡ turned p (first_children n f)
  first_turned n (with_child f t) =
      ap₂ with_child (first_turned n f)
      (ap (λ k. cond (nat_lt k n) (turned p t) anything) (length_turned f) ∙ turned_by
      (nat_lt (length (children_of f)) n) t)
  first_turned n (with_name f m) = ap (λ x. with_name x (p.to m)) (first_turned n f)
  first_turned n (with_number f m) = ap (λ x. with_number x 0) (first_turned n f)
  first_turned n (with_text f m) = ap (λ x. with_text x []) (first_turned n f)
  first_turned n (observed f) = ap observed (first_turned n f)
  first_turned zero (cell l e r) = refl
  first_turned (suc zero) (cell l e r) = refl
  first_turned (suc (suc n)) (cell l e r) = refl
  first_turned n (hole q) = refl
  first_turned n (ending l u) = refl
  first_turned n (operator o) = refl
  first_turned n anything = refl

  -- ---- the places of the steps

  abbrev turned_place : Place → Place
  turned_place place = record { path = place.path; part = turned p place.part; step = place.step }

  up_to_turned : (path : List ℕ) (f : Fragment) (n : ℕ)
      → steps_up_to path (turned p f) n ≡ map turned_place (steps_up_to path f n)
  up_to_turned path f zero = refl
  up_to_turned path f (suc n) =
      ap (λ l. l ++ record { path = path; part = turned p f; step = suc n } ∷ []) (up_to_turned path f n)
      ∙ sym (map-append turned_place (steps_up_to path f n) (record { path = path; part = f; step = suc n } ∷ []))

  module _ (def : Definition) where
    pub last_turned : (f : Fragment) → last_step def (turned p f) ≡ last_step def f
    last_turned f = ap₂ (λ b n. cond b (n + 1) n) (same_scope p def f) (count_turned f)

    own_turned : (path : List ℕ) (f : Fragment)
        → own_steps def path (turned p f) ≡ map turned_place (own_steps def path f)
    own_turned path f = ap (steps_up_to path (turned p f)) (last_turned f) ∙ up_to_turned path f (last_step def f)

    two : (xs ys : List Place) (new_xs new_ys : List Place) → new_xs ≡ map turned_place xs
        → new_ys ≡ map turned_place ys → new_xs ++ new_ys ≡ map turned_place (xs ++ ys)
    two xs ys new_xs new_ys d e = ap₂ (λ a b. a ++ b) d e ∙ sym (map-append turned_place xs ys)

    list_turned : (path : List ℕ) (f : Fragment)
        → list_steps def path (turned p f) ≡ map turned_place (list_steps def path f)
    list_turned path (cell l e r) =
        two (list_steps def path r) (own_steps def path (cell l e r)) (list_steps def path (turned p r))
        (own_steps def path (turned p (cell l e r)))
        (list_turned path r) (own_turned path (cell l e r))
    list_turned path (ending l u) = own_turned path (ending l u)
    list_turned path (observed f) = list_turned path f
    list_turned path (hole q) = refl
    list_turned path (operator o) = refl
    list_turned path (with_child f t) = refl
    list_turned path (with_name f n) = refl
    list_turned path (with_number f n) = refl
    list_turned path (with_text f t) = refl
    list_turned path anything = refl

    mutual
      steps_turned : (path : List ℕ) (f : Fragment)
          → steps_of def path (turned p f) ≡ map turned_place (steps_of def path f)
      steps_turned path (hole q) = own_turned path (hole q)
      steps_turned path (ending l u) = own_turned path (ending l u)
      steps_turned path (cell l e r) =
          two (steps_of def (path ++ 0 ∷ []) e ++ steps_below def path 1 r) (list_steps def path (cell l e r))
          (steps_of def (path ++ 0 ∷ []) (turned p e) ++ steps_below def path 1 (turned p r))
          (list_steps def path (turned p (cell l e r)))
          (two (steps_of def (path ++ 0 ∷ []) e) (steps_below def path 1 r) (steps_of def (path ++ 0 ∷ []) (turned p e))
          (steps_below def path 1 (turned p r))
          (steps_turned (path ++ 0 ∷ []) e) (below_turned path 1 r)) (list_turned path (cell l e r))
      steps_turned path (operator o) = own_turned path (operator o)
      steps_turned path (with_child f t) =
          two (steps_below def path 0 f ++ steps_of def (path ++ length (children_of f) ∷ []) t)
          (own_steps def path (with_child f t))
          (steps_below def path 0 (turned p f) ++ steps_of def (path ++ length (children_of (turned p f)) ∷ [])
          (turned p t)) (own_steps def path (turned p (with_child f t)))
          (two (steps_below def path 0 f) (steps_of def (path ++ length (children_of f) ∷ []) t)
          (steps_below def path 0 (turned p f))
          (steps_of def (path ++ length (children_of (turned p f)) ∷ []) (turned p t)) (below_turned path 0 f)
          (ap (λ n. steps_of def (path ++ n ∷ []) (turned p t)) (length_turned f) ∙ steps_turned
          (path ++ length (children_of f) ∷ []) t))
          (own_turned path (with_child f t))
      steps_turned path (with_name f n) =
          two (steps_below def path 0 f) (own_steps def path (with_name f n)) (steps_below def path 0 (turned p f))
          (own_steps def path (turned p (with_name f n)))
          (below_turned path 0 f) (own_turned path (with_name f n))
      steps_turned path (with_number f n) =
          two (steps_below def path 0 f) (own_steps def path (with_number f n)) (steps_below def path 0 (turned p f))
          (own_steps def path (turned p (with_number f n)))
          (below_turned path 0 f) (own_turned path (with_number f n))
      steps_turned path (with_text f t) =
          two (steps_below def path 0 f) (own_steps def path (with_text f t)) (steps_below def path 0 (turned p f))
          (own_steps def path (turned p (with_text f t)))
          (below_turned path 0 f) (own_turned path (with_text f t))
      steps_turned path anything = refl
      steps_turned path (observed f) = steps_turned path f

      below_turned : (path : List ℕ) (n : ℕ) (f : Fragment)
          → steps_below def path n (turned p f) ≡ map turned_place (steps_below def path n f)
      below_turned path n (hole q) = refl
      below_turned path n (ending l u) = refl
      below_turned path n (cell l e r) =
          two (steps_of def (path ++ n ∷ []) e) (steps_below def path (n + 1) r)
          (steps_of def (path ++ n ∷ []) (turned p e)) (steps_below def path (n + 1) (turned p r))
          (steps_turned (path ++ n ∷ []) e) (below_turned path (n + 1) r)
      below_turned path n (operator o) = refl
      below_turned path n (with_child f t) =
          two (steps_below def path n f) (steps_of def (path ++ length (children_of f) ∷ []) t)
          (steps_below def path n (turned p f))
          (steps_of def (path ++ length (children_of (turned p f)) ∷ []) (turned p t)) (below_turned path n f)
          (ap (λ k. steps_of def (path ++ k ∷ []) (turned p t)) (length_turned f) ∙ steps_turned
          (path ++ length (children_of f) ∷ []) t)
      below_turned path n (with_name f m) = below_turned path n f
      below_turned path n (with_number f m) = below_turned path n f
      below_turned path n (with_text f t) = below_turned path n f
      below_turned path n anything = refl
      below_turned path n (observed f) = below_turned path n f

  -- ---- what passes

  module _ (empty : p.to [] ≡ []) (def : Definition) (sound : IsSound def) (fewer : FewerColumns def.signature) where
    pub passes_to : (f : Fragment) (n : ℕ) → PassesAt def f n → PassesAt def (turned p f) n
    passes_to f n (rows, adding k old within (sorts, rel), wide) =
        let (made, there, passes) = inside_to p empty def sound fewer (first_children n f) (rows, (sorts, rel), wide) in (
          made,
          adding n made (subst (λ m. n ≤ m) (sym (count_turned f)) within)
              (subst (λ t. (ss : List ℕ) × IsRelation def.signature ss (IsPossibleInside def t) made)
              (sym (first_turned n f)) there),
          passes,
        )
    passes_to f n (rows, closing k old last scope (sorts, rel), wide) =
        let (made, there, passes) = whole_to p empty def sound fewer f (rows, (sorts, rel), wide) in (
          made,
          closing n made (last ∙ ap (λ m. m + 1) (sym (count_turned f)))
              (same_scope p def f ∙ scope) there,
          passes,
        )

    pub passes_from : (f : Fragment) (n : ℕ) → PassesAt def (turned p f) n → PassesAt def f n
    passes_from f n (rows, adding k old within rel, wide) =
        let (made, there, passes) = inside_from p empty def sound fewer (first_children n f) (
          rows,
          subst (λ t. (ss : List ℕ) × IsRelation def.signature ss (IsPossibleInside def t) rows)
              (first_turned n f) rel,
          wide,
        ) in
        (made, adding n made (subst (λ m. n ≤ m) (count_turned f) within) there, passes)
    passes_from f n (rows, closing k old last scope rel, wide) =
        let (made, there, passes) = whole_from p empty def sound fewer f (rows, rel, wide) in (
          made,
          closing n made (last ∙ ap (λ m. m + 1) (count_turned f))
              (sym (same_scope p def f) ∙ scope) there,
          passes,
        )

    pub wide_to : (f : Fragment) → IsWide def f → IsWide def (turned p f)
    wide_to f (place, there, passes) = (
      turned_place place,
      subst (IsIn (turned_place place)) (sym (steps_turned def [] f))
          (in-map turned_place place (steps_of def [] f) there),
      passes_to place.part place.step passes,
    )

    pub wide_from : (f : Fragment) → IsWide def (turned p f) → IsWide def f
    wide_from f (place, there, passes) =
        let (old, among, same) = map-in turned_place place (steps_of def [] f)
        (subst (IsIn place) (steps_turned def [] f) there) in
        (old, among, passes_from old.part old.step (subst (λ q. PassesAt def q.part q.step) same passes))
