-- Each case of a step is covered by the rows of the step's relation.
use Rattle.std.proofs.Common.{◌≡◌, ℕ, suc, ◌+◌, true, false, List, [], ◌∷◌, ◌++◌, map, Option, Some, slice_get, refl, ap, sym, ◌∙◌, subst, add-one}
use Rattle.std.specs.Prelude.{option_and_then}
use Rattle.std.specs.List.{AllByRecursion}
use Rattle.psg_terms.specs.Names.{has_twice}
use Rattle.psg_terms.specs.Instances.{IsGrounding, Substitution, substitute}
use Rattle.psg_terms.specs.Relations.{IsIn, IsRelation, IsShape, first, later}
use Rattle.psg_terms.specs.Terms.{Term}
use Rattle.psg_terms.proofs.Lists.{each_append}
use Rattle.psg_grammar.specs.declared.types.Kind.{Kind}
use Rattle.psg_grammar.specs.declared.types.Operator.{Operator}
use Rattle.psg_grammar.specs.declared.types.Definition.{Definition}
use Rattle.psg_grammar.specs.Fragments.{Fragment, hole, ending, cell, operator, with_child, with_name, with_number, with_text, anything, observed, top_operator}
use Rattle.psg_grammar.specs.Keys.{Key, in_order}
use Rattle.psg_grammar.specs.Lookups.{is_scope, operator_at}
use Rattle.psg_grammar.specs.Open.{Choice}
use Rattle.psg_grammar.specs.Regions.{declared_inside, names_inside, names_of}
use Rattle.psg_grammar.specs.Relations.{IsPossible, IsPossibleInside}
use Rattle.psg_grammar.specs.Sound.{IsSound}
use Rattle.psg_grammar.specs.Steps.{first_children}
use Rattle.psg_grammar.specs.WellFormed.{Fits, IsPlain, WellFormed}
use Rattle.psg_eval.specs.Trees.{IsNode, own_names}
use Rattle.psg_eval.proofs.Spines.{first_bare}
use Rattle.psg_cache.proofs.RealTrees.{IsReal, IsSpine, real}
use Rattle.psg_explain.specs.declared.given.Case.{Case}
use Rattle.psg_explain.specs.Fitted.{IsCoverable}
use Rattle.psg_explain.specs.Given.{all_pairs, beside, closed_row, first_cases, keys_at, last_cases, next_cases, numbered_on, operator_cases, pair_case, pair_columns, pair_equations, row_pairs, variable_count}
use Rattle.psg_explain.proofs.CoverLaws.{AreFine, beside_fine, coverable, evenly, fine_raised, fine_row, key_terms_fine, pair_fine, pair_written}
use Rattle.psg_explain.proofs.FirstCovers.{all_plain, covers_cells, covers_hole, covers_nils, covers_open, covers_own}
use Rattle.psg_explain.proofs.Firsts.{sub_declared, sub_once}
use Rattle.psg_explain.proofs.FormedParts.{all_parts, first_whole, operator_of, whole_names, whole_outside}
use Rattle.psg_explain.proofs.LastRows.{closed_possible}
use Rattle.psg_explain.proofs.PairRows.{pair_choice, pair_possible}
use Rattle.psg_explain.proofs.PlanLaws.{IsFront, IsWalked}
use Rattle.psg_explain.proofs.SeenCounts.{added_at}
use Rattle.psg_explain.proofs.SolvedLaws.{IsFair}
use Rattle.psg_explain.proofs.Walking.{added_children}

module _ (def : Definition) (sound : IsSound def) (rows : List (List Term)) (sorts : List ℕ) where
  abbrev pub AreCovered : List Case → Type 0
  AreCovered cases = AllByRecursion (λ (c : Case). IsCoverable rows c.given c.columns) cases

  spine : (f : Fragment) → IsFront f → IsSpine f
  spine (operator o) i = tt
  spine (with_child f t) (i, j) = spine f i
  spine (with_name f n) i = spine f i
  spine (with_number f n) i = spine f i
  spine (with_text f n) i = spine f i
  spine (hole p) i = absurd i
  spine (ending l u) i = absurd i
  spine (cell l e r) i = absurd i
  spine anything i = absurd i
  spine (observed f) i = absurd i

  own_covered : (f : Fragment) (kind : Kind) → Fits def f [] kind → IsFront f → has_twice (declared_inside def f) ≡ false
      → IsRelation def.signature sorts (IsPossibleInside def (first_children 0 f)) rows → AreCovered (operator_cases (option_and_then (operator_at def) (top_operator f)) (own_names f))
  own_covered f kind fits i once rel =
      let parts = all_parts def f kind fits (spine f i) in
      let it = operator_of def f [] parts in
      let node : IsNode def it.o (own_names f) f = record { top = it.top; parts = parts; own = refl } in
      let e = first_bare def f [] parts in
      let first = sub_once (declared_inside def (first_children 0 f)) (declared_inside def f) (sub_declared def 0 f) once in
      subst (λ (o : Option Operator). AreCovered (operator_cases o (own_names f))) (sym (ap (option_and_then (operator_at def)) it.top ∙ it.found))
      (covers_own def sound rows sorts it.o it.op it.found (own_names f) f node (subst (λ (x : Fragment). has_twice (declared_inside def x) ≡ false) e first)
      (subst (λ (x : Fragment). IsRelation def.signature sorts (IsPossibleInside def x) rows) e rel))

  -- step 0
  pub first_covered : (f : Fragment) (kind : Kind) → Fits def f [] kind → IsWalked f → has_twice (declared_inside def f) ≡ false
      → IsRelation def.signature sorts (IsPossibleInside def (first_children 0 f)) rows → AreCovered (first_cases def f)
  first_covered (hole p) kind fits i once rel = covers_hole def sound rows sorts p rel
  first_covered (ending l true) kind fits i once rel = covers_open def sound rows sorts l rel
  first_covered (ending l false) kind fits i once rel = covers_nils def sound rows sorts l (slice_get def.lists l) refl rel
  first_covered (cell l e r) kind fits i once rel = covers_cells def sound rows sorts l (slice_get def.lists l) refl rel
  first_covered (operator o) kind fits i once rel = own_covered (operator o) kind fits i once rel
  first_covered (with_child f t) kind fits i once rel = own_covered (with_child f t) kind fits i once rel
  first_covered (with_name f n) kind fits i once rel = own_covered (with_name f n) kind fits i once rel
  first_covered (with_number f n) kind fits i once rel = own_covered (with_number f n) kind fits i once rel
  first_covered (with_text f n) kind fits i once rel = own_covered (with_text f n) kind fits i once rel
  first_covered anything kind fits i once rel = absurd i
  first_covered (observed f) kind fits i once rel = absurd i

  fair_split : (xs ys : List Case) → AllByRecursion (IsFair def.signature) (xs ++ ys) → AllByRecursion (IsFair def.signature) xs × AllByRecursion (IsFair def.signature) ys
  fair_split [] ys h = (tt, h)
  fair_split (x ∷ xs) ys (p, h) = let (a, b) = fair_split xs ys h in ((p, a), b)

  -- ---- the last step of a scope operator

  module _ (f : Fragment) (kind : Kind) (fits : Fits def f [] kind) (plain : IsPlain f) where
    own_real : IsReal f
    own_real = real def f (kind, (fits, plain))

    closed_fine : (K M : List Key) (row : List Term) → AreFine def.signature row → AreFine def.signature (closed_row K M row)
    closed_fine K M [] h = tt
    closed_fine K M (v ∷ es) (p, h) = (p, key_terms_fine def.signature (beside K es) (λ k u e. beside_fine def.signature K es k u h e) M)

    pub closed_covered : is_scope def f ≡ true → (before : List (List Term)) (ss : List ℕ) → IsRelation def.signature ss (IsPossibleInside def f) before → IsRelation def.signature sorts (IsPossible def f) rows
        → AreCovered (last_cases def f before)
    closed_covered scope before ss inside rel = all_plain def sound rows sorts (IsPossible def f) rel 0 (map (closed_row (in_order (names_inside def f)) (names_of def f)) before) (each before (λ row at. inside.shapes row at))
      where
        each : (bs : List (List Term)) → ((row : List Term) → IsIn row bs → IsShape def.signature ss (IsPossibleInside def f) row)
            → AllByRecursion (λ (row : List Term). AreFine def.signature row × ((c : Choice f) × ((h : Substitution) → IsGrounding def.signature h → IsPossible def f c (map (substitute h) row))))
            (map (closed_row (in_order (names_inside def f)) (names_of def f)) bs)
        each [] h = tt
        each (b ∷ bs) h =
            let shape = h b first in
            let fine = closed_fine (in_order (names_inside def f)) (names_of def f) b (fine_row def.signature b ss shape.sorted shape.canonical.written) in
            let whole = whole_names def f [] kind fits plain in
            ((fine, (shape.choice, λ g ground. closed_possible def f own_real scope whole shape.choice g b ((shape.exact (map (substitute g) b)).0 (g, ground, refl)))), each bs (λ row at. h row (later at)))

    -- ---- a child more

    module _ (t : Fragment) (n : ℕ) (inner : Kind) (of_child : WellFormed def t inner) (at : slice_get (added_children f) n ≡ Some t) (once : has_twice (declared_inside def f) ≡ false)
        (left_sorts right_sorts : List ℕ) where
      abbrev K : List Key
      K = keys_at def f n

      abbrev L : List Key
      L = names_of def t

      abbrev M : List Key
      M = keys_at def f (suc n)

      pair_covered : IsRelation def.signature sorts (IsPossibleInside def (first_children (suc n) f)) rows → (i j : ℕ) (p q : List Term) → IsShape def.signature left_sorts (IsPossibleInside def (first_children n f)) p
          → IsShape def.signature right_sorts (IsPossible def t) q → IsFair def.signature (pair_case K L M i j p q) → IsCoverable rows (pair_case K L M i j p q).given (pair_case K L M i j p q).columns
      pair_covered rel i j p q one two fair =
          let added = added_at def f t n own_real (all_parts def f kind fits) at in
          let names = first_whole def n f (whole_names def f [] kind fits plain) in
          let outside = whole_outside def t inner of_child.0 of_child.1 in
          let only = sub_once (declared_inside def (first_children (suc n) f)) (declared_inside def f) (sub_declared def (suc n) f) once in
          let left = fine_row def.signature p left_sorts one.sorted one.canonical.written in
          let right = fine_raised def.signature (variable_count p) q (fine_row def.signature q right_sorts two.sorted two.canonical.written) in
          let other : List Term = numbered_on (variable_count p) q in
          coverable def.signature sound.signature sorts (IsPossibleInside def (first_children (suc n) f)) rows rel (pair_equations K L M p other) (pair_columns K L M p other)
          (evenly def.signature (pair_equations K L M p other) fair.0 (pair_written def.signature K L M p other left right)) (pair_fine def.signature K L M p other left right)
          (pair_choice def t (first_children n f) (first_children (suc n) f) added.by added.count names outside (real def t (inner, of_child)) only left_sorts right_sorts p q one two)
          (λ h ground solved. pair_possible def t (first_children n f) (first_children (suc n) f) added.by added.count names outside (real def t (inner, of_child)) only left_sorts right_sorts p q one two h ground solved)

      row_covered : IsRelation def.signature sorts (IsPossibleInside def (first_children (suc n) f)) rows → (i j : ℕ) (p : List Term) (qs : List (List Term)) → IsShape def.signature left_sorts (IsPossibleInside def (first_children n f)) p
          → ((q : List Term) → IsIn q qs → IsShape def.signature right_sorts (IsPossible def t) q) → AllByRecursion (IsFair def.signature) (row_pairs K L M i j p qs) → AreCovered (row_pairs K L M i j p qs)
      row_covered rel i j p [] one two fair = tt
      row_covered rel i j p (q ∷ qs) one two (here, fair) = (pair_covered rel i j p q one (two q first) here, row_covered rel i (j + 1) p qs one (λ x a. two x (later a)) fair)

      all_covered : IsRelation def.signature sorts (IsPossibleInside def (first_children (suc n) f)) rows → (i : ℕ) (ps qs : List (List Term)) → ((p : List Term) → IsIn p ps → IsShape def.signature left_sorts (IsPossibleInside def (first_children n f)) p)
          → ((q : List Term) → IsIn q qs → IsShape def.signature right_sorts (IsPossible def t) q) → AllByRecursion (IsFair def.signature) (all_pairs K L M i ps qs) → AreCovered (all_pairs K L M i ps qs)
      all_covered rel i [] qs one two fair = tt
      all_covered rel i (p ∷ ps) qs one two fair =
          let (here, more) = fair_split (row_pairs K L M i 0 p qs) (all_pairs K L M (i + 1) ps qs) fair in
          each_append (λ (c : Case). IsCoverable rows c.given c.columns) (row_pairs K L M i 0 p qs) (all_pairs K L M (i + 1) ps qs) (row_covered rel i 0 p qs (one p first) two here) (all_covered rel (i + 1) ps qs (λ x a. one x (later a)) two more)

      pub next_covered : (before others : List (List Term)) → IsRelation def.signature left_sorts (IsPossibleInside def (first_children n f)) before → IsRelation def.signature right_sorts (IsPossible def t) others
          → IsRelation def.signature sorts (IsPossibleInside def (first_children (n + 1) f)) rows → AllByRecursion (IsFair def.signature) (next_cases def f n t before others) → AreCovered (next_cases def f n t before others)
      next_covered before others left right =
          subst (λ (m : ℕ). IsRelation def.signature sorts (IsPossibleInside def (first_children m f)) rows → AllByRecursion (IsFair def.signature) (all_pairs K L (keys_at def f m) 0 before others) → AreCovered (all_pairs K L (keys_at def f m) 0 before others))
          (sym (add-one n)) (λ rel fair. all_covered rel 0 before others (λ p a. left.shapes p a) (λ q a. right.shapes q a) fair)
