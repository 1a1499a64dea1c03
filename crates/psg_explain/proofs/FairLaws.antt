-- The equations of a step's cases are between terms of one sort.
use Rattle.std.proofs.Common.{◌≡◌, inl, inr, ℕ, zero, suc, ◌+◌, ◌-◌, Bool, true, false, cond, List, [], ◌∷◌, ◌++◌, map, drop, length, length-append, Option, Some, None, slice_get, refl, ap, sym, ◌∙◌, subst, append_assoc, arith}
use Rattle.std.specs.Prelude.{bytes_eq, option_and_then, option_map}
use Rattle.std.specs.List.{AllByRecursion}
use Rattle.std.proofs.lemmas.Bool.{cases_Bool, cases_lt}
use Rattle.std.proofs.lemmas.Option.{none-some}
use Rattle.psg_terms.specs.Names.{Name}
use Rattle.psg_terms.specs.Terms.{Term, variable, symbol, apply}
use Rattle.psg_terms.specs.Signature.{HasSort, HaveSorts, Takes}
use Rattle.psg_terms.specs.Instances.{substitute}
use Rattle.psg_terms.specs.Renaming.{raised}
use Rattle.psg_terms.specs.Relations.{IsIn, first, later}
use Rattle.psg_terms.proofs.DeclareLaws.{bytes_eq-same}
use Rattle.psg_terms.proofs.Lists.{drop_there, each_append, each_at, slice_get-end_is, slice_get-middle}
use Rattle.psg_grammar.specs.declared.types.Kind.{Kind}
use Rattle.psg_grammar.specs.declared.types.Kind.TheVariants as kinds
use Rattle.psg_grammar.specs.declared.types.Item.{Item}
use Rattle.psg_grammar.specs.declared.types.Item.TheVariants as items
use Rattle.psg_grammar.specs.declared.types.Row.{Row}
use Rattle.psg_grammar.specs.declared.types.ListKind.{ListKind}
use Rattle.psg_grammar.specs.declared.types.Operator.{Operator}
use Rattle.psg_grammar.specs.declared.types.Definition.{Definition}
use Rattle.psg_grammar.specs.Fragments.{Fragment, hole, ending, cell, operator, with_child, with_name, with_number, with_text, anything, observed, children_of, top_operator}
use Rattle.psg_grammar.specs.Keys.{Key, in_order, space_of}
use Rattle.psg_grammar.specs.Kinds.{IsOfKind}
use Rattle.psg_grammar.specs.Lookups.{is_scope, operator_at, part_items}
use Rattle.psg_grammar.specs.Regions.{declared_inside, names_inside, names_of, passing, unfinished_inside}
use Rattle.psg_grammar.specs.Sound.{AreColumns, HasKindSort, HasSpaceSort, IsOperator, IsRow, IsSound}
use Rattle.psg_grammar.specs.Steps.{children_count, first_children, last_step}
use Rattle.psg_grammar.specs.WellFormed.{Fits, IsPlain, WellFormed}
use Rattle.psg_relation.specs.Choices.{pick}
use Rattle.psg_scope.specs.Headers.{keys}
use Rattle.psg_eval.specs.OwnRows.{name_terms, positions}
use Rattle.psg_eval.specs.Partials.{AreKindSorts}
use Rattle.psg_eval.specs.Summaries.{slot_kinds}
use Rattle.psg_eval.specs.Trees.{own_names}
use Rattle.psg_eval.proofs.PartialSorts.{key_sort_same, kind_sort_same}
use Rattle.psg_cache.proofs.Each.{not_nil}
use Rattle.psg_cache.proofs.Evaluations.{kind_fits, one_kind}
use Rattle.psg_cache.proofs.RealTrees.{real}
use Rattle.psg_explain.specs.Equations.{Equation}
use Rattle.psg_explain.specs.Given.{all_pairs, beside, cell_rows_of, closed_row, entities_of, first_cases, hole_rows_of, key_equations, key_subjects, keys_at, last_cases, next_cases, nil_rows_of, numbered_on, operator_cases, own_cases, own_equations, own_subjects, pair_case, pair_equations, pair_subjects, plain_cases, row_pairs, subject_of, variable_count}
use Rattle.psg_explain.specs.Refutations.{AreClaimed, AreColumnSorts, AreSortsOfKeys, HasStepSorts, adding, closing, kinds_below, kinds_of_cell, kinds_of_slots}
use Rattle.psg_explain.proofs.PlanFormed.{walked_of}
use Rattle.psg_explain.proofs.PlanLaws.{IsFront}
use Rattle.psg_explain.proofs.PlanSources.{front_there, there_within}
use Rattle.psg_explain.proofs.SolvedLaws.{AreEven, IsEven, IsFair}
use Rattle.psg_explain.proofs.SortLaws.{kinds_many, over, parts_slots}
use Rattle.psg_explain.proofs.Theorem.{all_first}
use Rattle.psg_explain.proofs.Walking.{added_children}

same_lengths : {X Y A : Type 0} (o : Option A) (f : A → X) (g : A → Y) (xs : List X) (ys : List Y) → length xs ≡ length ys → length (pick (option_map f o) xs) ≡ length (pick (option_map g o) ys)
same_lengths None f g xs ys e = e
same_lengths (Some a) f g xs ys e = ap suc e

own_told : (ns : List Key) (us : List Term) (ks : List Key) (ts : List Term) → length (own_subjects ns us ks ts) ≡ length (own_equations ns us ks ts)
own_told ns us [] ts = refl
own_told ns us (k ∷ ks) [] = refl
own_told ns us (k ∷ ks) (t ∷ ts) =
    same_lengths (beside ns us k) (λ (u : Term). subject_of k) (λ (u : Term). (u, t)) (own_subjects (ns ++ k ∷ []) (us ++ t ∷ []) ks ts) (own_equations (ns ++ k ∷ []) (us ++ t ∷ []) ks ts) (own_told (ns ++ k ∷ []) (us ++ t ∷ []) ks ts)

key_told : (term : Key → Option Term) (ks : List Key) (ts : List Term) → length (key_subjects term ks ts) ≡ length (key_equations term ks ts)
key_told term [] ts = refl
key_told term (k ∷ ks) [] = refl
key_told term (k ∷ ks) (t ∷ ts) = same_lengths (term k) (λ (u : Term). subject_of k) (λ (u : Term). (t, u)) (key_subjects term ks ts) (key_equations term ks ts) (key_told term ks ts)

pair_told : (K L M : List Key) (left right : List Term) → length (pair_subjects K L M left right) ≡ length (pair_equations K L M left right)
pair_told K L M (value ∷ wanted ∷ more) (own ∷ entities) = ap suc (key_told (beside L entities) K (entities_of K more))
pair_told K L M [] right = refl
pair_told K L M (value ∷ []) right = refl
pair_told K L M (value ∷ wanted ∷ more) [] = refl

module _ (def : Definition) where
  -- ---- entities of keys

  -- the term is of the sort of the key's space
  abbrev IsEntity : Key → Term → Type 0
  IsEntity k t = (s : ℕ) × HasSpaceSort def (space_of k) s × HasSort def.signature t s

  -- so are all, as far as there are some
  abbrev pub AreEntities : List Key → List Term → Type 0
  AreEntities [] ts = Unit {0}
  AreEntities (k ∷ ks) [] = Unit {0}
  AreEntities (k ∷ ks) (t ∷ ts) = IsEntity k t × AreEntities ks ts

  entities_push : (ns : List Key) (us : List Term) (k : Key) (t : Term) → length ns ≡ length us → AreEntities ns us → IsEntity k t → AreEntities (ns ++ k ∷ []) (us ++ t ∷ [])
  entities_push [] [] k t e h is = (is, tt)
  entities_push [] (u ∷ us) k t e h is = absurd (omega (arith, e))
  entities_push (n ∷ ns) [] k t e h is = absurd (omega (arith, e))
  entities_push (n ∷ ns) (u ∷ us) k t e (one, h) is = (one, entities_push ns us k t (omega (arith, e)) h is)

  beside_entity : (ns : List Key) (us : List Term) (k : Key) (u : Term) → AreEntities ns us → beside ns us k ≡ Some u → IsEntity k u
  beside_entity [] us k u h e = absurd (none-some u e)
  beside_entity (n ∷ ns) [] k u h e = absurd (none-some u e)
  beside_entity (n ∷ ns) (v ∷ us) k u (one, h) e = elim (cases_Bool (bytes_eq n k)) [
    | inl test ↦ (
        let same : n ≡ k = bytes_eq-same n k test in
        let got : Some v ≡ Some u = sym (ap (λ (b : Bool). cond b (Some v) (beside ns us k)) test) ∙ e in
        let is : v ≡ u = cc in
        subst (IsEntity k) is (subst (λ (x : Key). IsEntity x v) same one)
        )
    | inr test ↦ beside_entity ns us k u h (sym (ap (λ (b : Bool). cond b (Some v) (beside ns us k)) test) ∙ e)
  ]

  both_even : (k : Key) (t u : Term) → IsEntity k t → IsEntity k u → IsEven def.signature (t, u)
  both_even k t u (s, at, p) (r, there, q) = (s, p, subst (HasSort def.signature u) (key_sort_same def k r s there at) q)

  picked_even : (o : Option Term) (f : Term → Equation) (es : List Equation) → ((u : Term) → o ≡ Some u → IsEven def.signature (f u)) → AreEven def.signature es → AreEven def.signature (pick (option_map f o) es)
  picked_even None f es one more = more
  picked_even (Some u) f es one more = (one u refl, more)

  pub own_even : (ns : List Key) (us : List Term) (ks : List Key) (ts : List Term) → length ns ≡ length us → AreEntities ns us → AreEntities ks ts → AreEven def.signature (own_equations ns us ks ts)
  own_even ns us [] ts e h k = tt
  own_even ns us (k ∷ ks) [] e h i = tt
  own_even ns us (k ∷ ks) (t ∷ ts) e h (one, more) =
      let a = length-append ns (k ∷ []) in
      let b = length-append us (t ∷ []) in
      picked_even (beside ns us k) (λ (u : Term). (u, t)) (own_equations (ns ++ k ∷ []) (us ++ t ∷ []) ks ts) (λ u got. both_even k u t (beside_entity ns us k u h got) one)
      (own_even (ns ++ k ∷ []) (us ++ t ∷ []) ks ts (omega (arith, a, b, e)) (entities_push ns us k t e h one) more)

  key_even : (L : List Key) (others : List Term) (ks : List Key) (ts : List Term) → AreEntities L others → AreEntities ks ts → AreEven def.signature (key_equations (beside L others) ks ts)
  key_even L others [] ts h k = tt
  key_even L others (k ∷ ks) [] h i = tt
  key_even L others (k ∷ ks) (t ∷ ts) h (one, more) =
      picked_even (beside L others k) (λ (u : Term). (t, u)) (key_equations (beside L others) ks ts) (λ u got. both_even k t u one (beside_entity L others k u h got)) (key_even L others ks ts h more)

  -- ---- rows

  entities_sorted : (ks : List Key) (ts : List Term) (ss : List ℕ) → AreSortsOfKeys def ks ss → HaveSorts def.signature ts ss → AreEntities ks ts
  entities_sorted [] ts ss e h = tt
  entities_sorted (k ∷ ks) [] ss e h = tt
  entities_sorted (k ∷ ks) (t ∷ ts) ss (s, rest, is, at, more) h =
      let (one, others) = subst (HaveSorts def.signature (t ∷ ts)) is h in
      ((s, at, one), entities_sorted ks ts rest more others)

  pub key_sorts_count : (ks : List Key) (ss : List ℕ) → AreSortsOfKeys def ks ss → length ss ≡ length ks
  key_sorts_count [] ss e = ap length e
  key_sorts_count (k ∷ ks) ss (s, rest, e, h, more) = ap length e ∙ ap suc (key_sorts_count ks rest more)

  sorted_count : (ts : List Term) (ss : List ℕ) → HaveSorts def.signature ts ss → length ts ≡ length ss
  sorted_count [] [] h = refl
  sorted_count [] (s ∷ ss) h = absurd h
  sorted_count (t ∷ ts) [] h = absurd h
  sorted_count (t ∷ ts) (s ∷ ss) (p, h) = ap suc (sorted_count ts ss h)

  sorted_behind : (ts : List Term) (ss rs : List ℕ) → HaveSorts def.signature ts (ss ++ rs) → HaveSorts def.signature (drop (length ss) ts) rs
  sorted_behind ts [] rs h = h
  sorted_behind [] (s ∷ ss) rs h = absurd h
  sorted_behind (t ∷ ts) (s ∷ ss) rs (p, h) = sorted_behind ts ss rs h

  raised_takes : (n : ℕ) (t : Term) (ss : List ℕ) (s : ℕ) → Takes def.signature t ss s → Takes def.signature (substitute (raised n) t) ss s
  raised_takes n (variable p m) ss s h = h
  raised_takes n (symbol c) ss s h = h
  raised_takes n (apply f a) ss s (lead, p, q) = (lead, raised_takes n f (lead ∷ ss) s p, raised_takes n a [] lead q)

  pub raised_sorts : (n : ℕ) (ts : List Term) (ss : List ℕ) → HaveSorts def.signature ts ss → HaveSorts def.signature (map (substitute (raised n)) ts) ss
  raised_sorts n [] [] h = h
  raised_sorts n [] (s ∷ ss) h = absurd h
  raised_sorts n (t ∷ ts) [] h = absurd h
  raised_sorts n (t ∷ ts) (s ∷ ss) (p, h) = (raised_takes n t [] s p, raised_sorts n ts ss h)

  -- a left row wants a value of the sort of the right row's
  module _ (K L M : List Key) (value sort : ℕ) (others entities outer : List ℕ) (are : AreSortsOfKeys def K entities) (outside : AreSortsOfKeys def L outer) where
    pair_even : (left right : List Term) → HaveSorts def.signature left (value ∷ sort ∷ others ++ entities) → HaveSorts def.signature right (sort ∷ outer) → AreEven def.signature (pair_equations K L M left right)
    pair_even (v ∷ w ∷ more) (own ∷ terms) (a, (b, h)) (c, k) =
        let many = sorted_count more (others ++ entities) h in
        let parts = length-append others entities in
        let count = key_sorts_count K entities are in
        let place : length more - length K ≡ length others = omega (arith, many, parts, count) in
        let inner : HaveSorts def.signature (entities_of K more) entities = subst (λ (n : ℕ). HaveSorts def.signature (drop n more) entities) (sym place) (sorted_behind more others entities h) in
        ((sort, b, c), key_even L terms K (entities_of K more) (entities_sorted L terms outer outside k) (entities_sorted K (entities_of K more) entities are inner))
    pair_even [] right h k = tt
    pair_even (v ∷ []) right h k = tt
    pair_even (v ∷ w ∷ more) [] h k = tt

    fair_pair : (i j : ℕ) (left right : List Term) → HaveSorts def.signature left (value ∷ sort ∷ others ++ entities) → HaveSorts def.signature right (sort ∷ outer) → IsFair def.signature (pair_case K L M i j left right)
    fair_pair i j left right h k =
        let other : List Term = numbered_on (variable_count left) right in
        (pair_even left other h (raised_sorts (variable_count left) right (sort ∷ outer) k), pair_told K L M left other)

    fair_row : (i j : ℕ) (left : List Term) (rights : List (List Term)) → HaveSorts def.signature left (value ∷ sort ∷ others ++ entities) → ((right : List Term) → IsIn right rights → HaveSorts def.signature right (sort ∷ outer))
        → AllByRecursion (IsFair def.signature) (row_pairs K L M i j left rights)
    fair_row i j left [] h k = tt
    fair_row i j left (right ∷ rights) h k = (fair_pair i j left right h (k right first), fair_row i (j + 1) left rights h (λ x at. k x (later at)))

    fair_all : (i : ℕ) (lefts rights : List (List Term)) → ((left : List Term) → IsIn left lefts → HaveSorts def.signature left (value ∷ sort ∷ others ++ entities)) → ((right : List Term) → IsIn right rights → HaveSorts def.signature right (sort ∷ outer))
        → AllByRecursion (IsFair def.signature) (all_pairs K L M i lefts rights)
    fair_all i [] rights h k = tt
    fair_all i (left ∷ lefts) rights h k =
        each_append (IsFair def.signature) (row_pairs K L M i 0 left rights) (all_pairs K L M (i + 1) lefts rights) (fair_row i 0 left rights (h left first) k) (fair_all (i + 1) lefts rights (λ x at. h x (later at)) k)

  -- ---- rows that stay, and an operator's own rows

  fair_plain : (i : ℕ) (rows : List (List Term)) → AllByRecursion (IsFair def.signature) (plain_cases i rows)
  fair_plain i [] = tt
  fair_plain i (row ∷ rows) = ((tt, refl), fair_plain (i + 1) rows)

  pub position_entities : (xs : List Item) (names : List Name) (ts : List Term) (ss : List ℕ) → AreColumns def (part_items xs) ss → HaveSorts def.signature ts ss → AreEntities (keys (positions xs names)) (name_terms xs ts)
  position_entities [] names ts ss a h = tt
  position_entities (items.Slot k ∷ xs) names [] ss a h = nothing (keys (positions xs names))
    where
      nothing : (ks : List Key) → AreEntities ks []
      nothing [] = tt
      nothing (x ∷ ks) = tt
  position_entities (items.Slot k ∷ xs) names (t ∷ ts) ss (s, more, e, is, a) h =
      let (one, rest) = subst (HaveSorts def.signature (t ∷ ts)) e h in
      position_entities xs names ts more a rest
  position_entities (items.Refers n ∷ xs) [] ts ss a h = tt
  position_entities (items.Refers n ∷ xs) (w ∷ names) [] ss a h = tt
  position_entities (items.Refers n ∷ xs) (w ∷ names) (t ∷ ts) ss (s, more, e, is, a) h =
      let (one, rest) = subst (HaveSorts def.signature (t ∷ ts)) e h in
      ((s, is, one), position_entities xs names ts more a rest)
  position_entities (items.Declares n ∷ xs) [] ts ss a h = tt
  position_entities (items.Declares n ∷ xs) (w ∷ names) [] ss a h = tt
  position_entities (items.Declares n ∷ xs) (w ∷ names) (t ∷ ts) ss (s, more, e, is, a) h =
      let (one, rest) = subst (HaveSorts def.signature (t ∷ ts)) e h in
      ((s, is, one), position_entities xs names ts more a rest)
  position_entities (items.Number ∷ xs) names ts ss a h = position_entities xs names ts ss a h
  position_entities (items.Text ∷ xs) names ts ss a h = position_entities xs names ts ss a h
  position_entities (items.Word w ∷ xs) names ts ss a h = position_entities xs names ts ss a h
  position_entities (items.Space ∷ xs) names ts ss a h = position_entities xs names ts ss a h
  position_entities (items.Tight ∷ xs) names ts ss a h = position_entities xs names ts ss a h
  position_entities (items.Line ∷ xs) names ts ss a h = position_entities xs names ts ss a h
  position_entities (items.In ∷ xs) names ts ss a h = position_entities xs names ts ss a h
  position_entities (items.Out ∷ xs) names ts ss a h = position_entities xs names ts ss a h

  fair_own : (op : Operator) (names : List Name) (i head : ℕ) (columns : List ℕ) (rows : List Row) → AreColumns def (part_items op.items) columns → AllByRecursion (IsRow def head columns) rows → AllByRecursion (IsFair def.signature) (own_cases op names i rows)
  fair_own op names i head columns [] a h = tt
  fair_own op names i head columns (row ∷ rows) a (one, h) =
      let ks : List Key = keys (positions op.items names) in
      let entities : List Term = name_terms op.items row.columns in (
        (own_even [] [] ks entities refl tt (position_entities op.items names row.columns columns a one.of_columns), own_told [] [] ks entities),
        fair_own op names (i + 1) head columns rows a h,
      )

  fair_operator : IsSound def → (o : Option Operator) (at : ℕ) (names : List Name) → slice_get def.operators at ≡ o → AllByRecursion (IsFair def.signature) (operator_cases o names)
  fair_operator sound None at names e = tt
  fair_operator sound (Some op) at names e =
      let is : IsOperator def op = each_at (IsOperator def) def.operators sound.operators at op e in
      fair_own op names 0 is.sort is.columns op.rows is.are_columns is.each_row

  fair_top : IsSound def → (o : Option ℕ) (names : List Name) → AllByRecursion (IsFair def.signature) (operator_cases (option_and_then (operator_at def) o) names)
  fair_top sound None names = tt
  fair_top sound (Some o) names = fair_operator sound (slice_get def.operators o) o names refl

  pub fair_first : IsSound def → (f : Fragment) → AllByRecursion (IsFair def.signature) (first_cases def f)
  fair_first sound (hole p) = fair_plain 0 (hole_rows_of (kinds.Phylum p) def.hole_rows)
  fair_first sound (ending l true) = fair_plain 0 (hole_rows_of (kinds.List l) def.hole_rows)
  fair_first sound (ending l false) = fair_plain 0 (nil_rows_of (slice_get def.lists l))
  fair_first sound (cell l e r) = fair_plain 0 (cell_rows_of (slice_get def.lists l))
  fair_first sound anything = tt
  fair_first sound (observed f) = tt
  fair_first sound (operator o) = fair_top sound (top_operator (operator o)) (own_names (operator o))
  fair_first sound (with_child f t) = fair_top sound (top_operator (with_child f t)) (own_names (with_child f t))
  fair_first sound (with_name f n) = fair_top sound (top_operator (with_name f n)) (own_names (with_name f n))
  fair_first sound (with_number f n) = fair_top sound (top_operator (with_number f n)) (own_names (with_number f n))
  fair_first sound (with_text f n) = fair_top sound (top_operator (with_text f n)) (own_names (with_text f n))

  pub fair_last : (f : Fragment) (before : List (List Term)) → AllByRecursion (IsFair def.signature) (last_cases def f before)
  fair_last f before = fair_plain 0 (map (closed_row (in_order (names_inside def f)) (names_of def f)) before)

  -- ---- the kind of a child

  -- the kinds of the children so far, and those that follow
  abbrev KindsUpTo : Fragment → List Item → List Kind → Type 0
  KindsUpTo f more all = (front : List Kind) × (all ≡ front ++ slot_kinds def more) × (length front ≡ length (children_of f))

  abbrev kinds_at_top : Fragment → List Kind
  kinds_at_top f = kinds_of_slots def (option_and_then (operator_at def) (top_operator f))

  kinds_up_to : (f : Fragment) (i : Item) (more : List Item) (kind : Kind) → Fits def f (i ∷ more) kind → KindsUpTo f (i ∷ more) (kinds_at_top f)
  kinds_up_to (operator o) i more kind (op, found, e, k) =
      ([], ap (kinds_of_slots def) found ∙ sym (parts_slots def op.items) ∙ ap (slot_kinds def) (sym e), refl)
  kinds_up_to (with_child f t) i more kind (k, hf, ht) =
      let (front, all, many) = kinds_up_to f (items.Slot k) (i ∷ more) kind hf in
      let a = length-append front (k ∷ []) in
      let b = length-append (children_of f) (t ∷ []) in
      (front ++ k ∷ [], all ∙ sym (append_assoc front (k ∷ []) (slot_kinds def (i ∷ more))), omega (arith, a, b, many))
  kinds_up_to (with_name f n) i more kind (inl (s, h), name) = kinds_up_to f (items.Refers s) (i ∷ more) kind h
  kinds_up_to (with_name f n) i more kind (inr (s, h), name) = kinds_up_to f (items.Declares s) (i ∷ more) kind h
  kinds_up_to (with_number f n) i more kind (h, small) = kinds_up_to f items.Number (i ∷ more) kind h
  kinds_up_to (with_text f t) i more kind (h, text) = kinds_up_to f items.Text (i ∷ more) kind h
  kinds_up_to (hole p) i more kind h = absurd (not_nil i more h.0)
  kinds_up_to (ending l u) i more kind h = absurd (not_nil i more h.0)
  kinds_up_to (cell l e r) i more kind h = absurd (not_nil i more h.0)
  kinds_up_to anything i more kind h = absurd h
  kinds_up_to (observed f) i more kind h = absurd (not_nil i more h.0)

  -- a child is one of the kind of its slot
  abbrev HasKindAt : List Kind → ℕ → Fragment → Type 0
  HasKindAt ks n t = (k : Kind) × (slice_get ks n ≡ Some k) × IsOfKind def t k

  front_kinds : (f : Fragment) (more : List Item) (kind : Kind) (n : ℕ) (t : Fragment) → Fits def f more kind → IsPlain f → slice_get (children_of f) n ≡ Some t → IsFront f → HasKindAt (kinds_at_top f) n t
  front_kinds (operator o) more kind n t h plain at i = absurd (none-some t at)
  front_kinds (with_child f u) more kind n t (k, hf, hu) plain at (i, j) = elim (cases_lt n (length (children_of f))) [
    | inl lt ↦ front_kinds f (items.Slot k ∷ more) kind n t hf plain.0 (front_there (children_of f) (u ∷ []) n t at lt) i
    | inr le ↦ (
        let (front, all, many) = kinds_up_to f (items.Slot k) more kind hf in
        let within = there_within (children_of f ++ u ∷ []) n t at in
        let count = length-append (children_of f) (u ∷ []) in
        let last : n ≡ length (children_of f) = omega (arith, le, within, count) in
        let same : u ≡ t = last_is (children_of f) u t n last at in
        let place : n ≡ length front = last ∙ sym many in (
          k,
          ap (slice_get (kinds_at_top f)) place ∙ ap (λ (l : List Kind). slice_get l (length front)) all ∙ slice_get-middle front k (slot_kinds def more),
          subst (λ (x : Fragment). IsOfKind def x k) same (kind_fits def u [] k hu plain.1),
        )
        )
  ]
    where
      last_is : (xs : List Fragment) (x y : Fragment) (m : ℕ) → m ≡ length xs → slice_get (xs ++ x ∷ []) m ≡ Some y → x ≡ y
      last_is xs x y m e g = sym (slice_get-end_is xs x y (ap (slice_get (xs ++ x ∷ [])) (sym e) ∙ g))
  front_kinds (with_name f w) more kind n t (inl (s, h), name) plain at i = front_kinds f (items.Refers s ∷ more) kind n t h plain at i
  front_kinds (with_name f w) more kind n t (inr (s, h), name) plain at i = front_kinds f (items.Declares s ∷ more) kind n t h plain at i
  front_kinds (with_number f w) more kind n t (h, small) plain at i = front_kinds f (items.Number ∷ more) kind n t h plain at i
  front_kinds (with_text f w) more kind n t (h, text) plain at i = front_kinds f (items.Text ∷ more) kind n t h plain at i
  front_kinds (hole p) more kind n t h plain at i = absurd i
  front_kinds (ending l u) more kind n t h plain at i = absurd i
  front_kinds (cell l e r) more kind n t h plain at i = absurd i
  front_kinds anything more kind n t h plain at i = absurd i
  front_kinds (observed f) more kind n t h plain at i = absurd i

  pub child_kind : (f : Fragment) (kind : Kind) (n : ℕ) (t : Fragment) → WellFormed def f kind → slice_get (added_children f) n ≡ Some t → HasKindAt (kinds_below def f) n t
  child_kind (hole p) kind n t formed at = absurd (none-some t at)
  child_kind (ending l u) kind n t formed at = absurd (none-some t at)
  child_kind (operator o) kind n t formed at = absurd (none-some t at)
  child_kind (cell l e r) kind zero t ((a, b, k, found, fe, fr, z), plain) at =
      let same : e ≡ t = cc in
      (kinds.Phylum k.element, ap (λ (q : Option ListKind). slice_get (kinds_of_cell l q) 0) found, subst (λ (x : Fragment). IsOfKind def x (kinds.Phylum k.element)) same (kind_fits def e [] (kinds.Phylum k.element) fe plain.0))
  child_kind (cell l e r) kind (suc zero) t ((a, b, k, found, fe, fr, z), plain) at =
      let same : r ≡ t = cc in
      (kinds.List l, ap (λ (q : Option ListKind). slice_get (kinds_of_cell l q) 1) found, subst (λ (x : Fragment). IsOfKind def x (kinds.List l)) same (kind_fits def r [] (kinds.List l) fr plain.1))
  child_kind (cell l e r) kind (suc (suc n)) t formed at = absurd (none-some t at)
  child_kind (with_child f u) kind n t formed at = front_kinds (with_child f u) [] kind n t formed.0 formed.1 at (walked_of def (with_child f u) kind formed.0 formed.1)
  child_kind (with_name f w) kind n t formed at = front_kinds (with_name f w) [] kind n t formed.0 formed.1 at (walked_of def (with_name f w) kind formed.0 formed.1)
  child_kind (with_number f w) kind n t formed at = front_kinds (with_number f w) [] kind n t formed.0 formed.1 at (walked_of def (with_number f w) kind formed.0 formed.1)
  child_kind (with_text f w) kind n t formed at = front_kinds (with_text f w) [] kind n t formed.0 formed.1 at (walked_of def (with_text f w) kind formed.0 formed.1)
  child_kind anything kind n t formed at = absurd formed.0
  child_kind (observed f) kind n t formed at = absurd formed.1

  -- ---- sorts of a child's last step

  pub added_count : (f : Fragment) (kind : Kind) → WellFormed def f kind → length (added_children f) ≡ children_count f
  added_count (hole p) kind h = refl
  added_count (ending l u) kind h = refl
  added_count (cell l e r) kind h = refl
  added_count (operator o) kind h = refl
  added_count (with_child f t) kind h = refl
  added_count (with_name f n) kind h = refl
  added_count (with_number f n) kind h = refl
  added_count (with_text f n) kind h = refl
  added_count anything kind h = refl
  added_count (observed f) kind h = absurd h.1

  -- the columns of a whole node are its value and the entities of its keys
  pub whole_sorts : (f : Fragment) (kind : Kind) (sorts : List ℕ) → WellFormed def f kind → HasStepSorts def f (last_step def f) sorts → AreColumnSorts def f [] (names_of def f) sorts
  whole_sorts f kind sorts formed h = by (is_scope def f) refl h
    where
      none_left : drop (children_count f) (kinds_below def f) ≡ []
      none_left = let m = kinds_many def f kind formed in over (kinds_below def f) (children_count f) (omega (arith, m))

      by : (b : Bool) → is_scope def f ≡ b → HasStepSorts def f (cond b (children_count f + 1) (children_count f)) sorts → AreColumnSorts def f [] (names_of def f) sorts
      by true e (adding le c) = absurd (omega (arith, le))
      by true e (closing z c) = c
      by false e (closing z c) = absurd (omega (arith, z))
      by false e (adding le c) =
          let all_of : first_children (children_count f) f ≡ f = ap (λ (m : ℕ). first_children m f) (sym (added_count f kind formed)) ∙ all_first def f kind formed (real def f (kind, formed)) in
          let keys_same : keys_at def f (children_count f) ≡ names_of def f =
          ap (λ (g : Fragment). in_order (names_inside def g)) all_of ∙ sym (ap (λ (b : Bool). in_order (passing b (λ s. unfinished_inside def s f) (declared_inside def f) (names_inside def f))) e) in
          subst (λ (ks : List Key). AreColumnSorts def f [] ks sorts) keys_same (subst (λ (l : List Kind). AreColumnSorts def f l (keys_at def f (children_count f)) sorts) none_left c)

  -- the cases of a step that adds a child
  pub fair_next : (f : Fragment) (kind : Kind) (n : ℕ) (t : Fragment) (child : Kind) (before others : List (List Term)) → WellFormed def f kind → WellFormed def t child → slice_get (added_children f) n ≡ Some t
      → AreClaimed def f n before → AreClaimed def t (last_step def t) others → AllByRecursion (IsFair def.signature) (next_cases def f n t before others)
  fair_next f kind n t child before others formed inner at left right =
      let (k, there, of) = child_kind f kind n t formed at in
      let outer = whole_sorts t child right.sorts inner right.are_sorts in
      let split : drop n (kinds_below def f) ≡ k ∷ drop (n + 1) (kinds_below def f) = drop_there (kinds_below def f) n k there in
      by k of outer split left.are_sorts
    where
      by : (k : Kind) → IsOfKind def t k → (outer : AreColumnSorts def t [] (names_of def t) right.sorts) → drop n (kinds_below def f) ≡ k ∷ drop (n + 1) (kinds_below def f) → HasStepSorts def f n left.sorts → AllByRecursion (IsFair def.signature) (next_cases def f n t before others)
      by k of outer split (closing z c) = absurd (let w = there_within (added_children f) n t at in let m = added_count f kind formed in omega (arith, z, m, w))
      by k of outer split (adding le c) =
          let wanted : AreKindSorts def (k ∷ drop (n + 1) (kinds_below def f)) c.others = subst (λ (l : List Kind). AreKindSorts def l c.others) split c.are_others in
          let sort : ℕ = wanted.0 in
          let same : wanted.0 ≡ outer.value = kind_sort_same def k wanted.0 outer.value wanted.3 (subst (λ (x : Kind). HasKindSort def x outer.value) (one_kind def t outer.kind k outer.of_kind of) outer.kind_sort) in
          let lefts : left.sorts ≡ c.value ∷ wanted.0 ∷ wanted.1 ++ c.entities = c.all ∙ ap (λ (l : List ℕ). (c.value ∷ l) ++ c.entities) wanted.2 in
          let none : outer.others ≡ [] = outer.are_others in
          let rights : right.sorts ≡ wanted.0 ∷ outer.entities = outer.all ∙ ap (λ (l : List ℕ). (outer.value ∷ l) ++ outer.entities) none ∙ ap (λ (s : ℕ). s ∷ outer.entities) (sym same) in
          fair_all (keys_at def f n) (names_of def t) (keys_at def f (n + 1)) c.value wanted.0 wanted.1 c.entities outer.entities c.are_entities outer.are_entities 0 before others
          (λ row i. subst (HaveSorts def.signature row) lefts (left.sorted row i))
          (λ row i. subst (HaveSorts def.signature row) rights (right.sorted row i))
