-- The sorts of the columns of a step are determined.
use Rattle.std.proofs.Common.{◌≡◌, ◌↔◌, ◌⊎◌, inl, inr, ℕ, zero, suc, ◌+◌, ◌<◌, ◌≤◌, Bool, IsTrue, List, [], ◌∷◌, ◌++◌, take, drop, get_or, length, length-append, Option, Some, None, slice_get, refl, ap, ap₂, sym, ◌∙◌, subst, arith}
use Rattle.std.specs.Prelude.{option_and_then, option_map}
use Rattle.std.specs.List.{AllByRecursion}
use Rattle.std.proofs.lemmas.List.{map-append, take_all}
use Rattle.psg_terms.specs.Terms.{Term}
use Rattle.psg_terms.specs.Relations.{IsIn, first, later}
use Rattle.psg_terms.specs.declared.sorts.SortId.{SortId}
use Rattle.psg_terms.specs.Instances.{HasSameInstances}
use Rattle.psg_terms.specs.Kept.{numbers_of}
use Rattle.psg_terms.specs.Signature.{HaveSorts, Signature}
use Rattle.psg_terms.proofs.Lists.{each_in, each_push, in_at, slice_get_item, take_item}
use Rattle.psg_grammar.specs.declared.types.Kind.{Kind}
use Rattle.psg_grammar.specs.declared.types.Kind.TheVariants as kinds
use Rattle.psg_grammar.specs.declared.types.Item.{Item}
use Rattle.psg_grammar.specs.declared.types.Item.TheVariants as items
use Rattle.psg_grammar.specs.declared.types.ListKind.{ListKind}
use Rattle.psg_grammar.specs.declared.types.Phylum.{Phylum}
use Rattle.psg_grammar.specs.declared.types.Space.{Space}
use Rattle.psg_grammar.specs.declared.types.Operator.{Operator}
use Rattle.psg_grammar.specs.declared.types.Definition.{Definition}
use Rattle.psg_grammar.specs.Fragments.{Fragment, hole, ending, cell, operator, with_child, with_name, with_number, with_text, anything, observed, children_of, top_operator}
use Rattle.psg_grammar.specs.Keys.{Key, space_of}
use Rattle.psg_grammar.specs.Kinds.{IsOfKind, kind_sort_of}
use Rattle.psg_grammar.specs.Lookups.{operator_at, part_items}
use Rattle.psg_grammar.specs.Regions.{names_of}
use Rattle.psg_grammar.specs.Sound.{HasKindSort, HasSpaceSort}
use Rattle.psg_grammar.specs.Steps.{children_count}
use Rattle.psg_grammar.specs.WellFormed.{WellFormed}
use Rattle.psg_scope.specs.declared.header.NameCol.{NameCol}
use Rattle.psg_scope.specs.Headers.{key_of, keys}
use Rattle.psg_eval.specs.Partials.{AreKindSorts}
use Rattle.psg_eval.specs.Summaries.{slot_kinds}
use Rattle.psg_eval.specs.Trees.{HasParts}
use Rattle.psg_eval.proofs.PartialSorts.{key_sort_same, kind_sort_same}
use Rattle.psg_cache.proofs.Evaluations.{one_kind}
use Rattle.psg_cache.proofs.RealTrees.{IsSpine, real}
use Rattle.psg_explain.specs.declared.stages.Source.{Source}
use Rattle.psg_explain.specs.declared.stages.Source.TheVariants as sources
use Rattle.psg_explain.specs.declared.stages.Stage.{Stage}
use Rattle.psg_explain.specs.Given.{keys_at}
use Rattle.psg_explain.specs.Plans.{AreCanonical, Origin, from_itself, from_pair, from_before, Step}
use Rattle.psg_explain.specs.Refutations.{AreClaimed, AreColumnSorts, AreSortsOfKeys, HasStepSorts, adding, closing, kinds_below, kinds_of_cell, kinds_of_slots}
use Rattle.psg_explain.specs.Sources.{AreSortsAt, IsClaimable, IsNumbered, IsSource, IsStage}
use Rattle.psg_explain.proofs.FormedParts.{all_parts}

pub over : {X : Type 0} (xs : List X) (n : ℕ) → length xs ≤ n → drop n xs ≡ []
over [] zero l = refl
over [] (suc n) l = refl
over (x ∷ xs) zero l = absurd (omega (arith, l))
over (x ∷ xs) (suc n) l = over xs n (omega (arith, l))

take_there : {X : Type 0} (xs : List X) (i : ℕ) (x : X) → slice_get xs i ≡ Some x → take (i + 1) xs ≡ take i xs ++ x ∷ []
take_there {X} xs i x at = let e : i + 1 ≡ suc i = omega arith in ap (λ (k : ℕ). take k xs) e ∙ more xs i at
  where
    more : (ys : List X) (n : ℕ) → slice_get ys n ≡ Some x → take (suc n) ys ≡ take n ys ++ x ∷ []
    more [] n h = absurd (cc)
    more (y ∷ ys) zero h = let e : y ≡ x = cc in ap (λ (z : X). z ∷ []) e
    more (y ∷ ys) (suc n) h = ap (λ (l : List X). y ∷ l) (more ys n h)

numbers-append : (xs ys : List SortId) → numbers_of (xs ++ ys) ≡ numbers_of xs ++ numbers_of ys
numbers-append [] ys = refl
numbers-append (x ∷ xs) ys = ap (λ (l : List ℕ). x.0 ∷ l) (numbers-append xs ys)

numbers_more : (xs : List SortId) (s : SortId) → numbers_of (xs ++ s ∷ []) ≡ numbers_of xs ++ s.0 ∷ []
numbers_more xs s = numbers-append xs (s ∷ [])

-- a row has the ground instances that it has
pub same_instances : (sig : Signature) (row : List Term) → HasSameInstances sig row row
same_instances sig row = ((λ other h. h), (λ other h. h))

module _ (def : Definition) where
  kinds_once : (ks : List Kind) (a b : List ℕ) → AreKindSorts def ks a → AreKindSorts def ks b → a ≡ b
  kinds_once [] a b p q = p ∙ sym q
  kinds_once (k ∷ ks) a b (s, r, e, h, m) (t, q, f, i, n) = e ∙ ap₂ (λ (x : ℕ) (xs : List ℕ). x ∷ xs) (kind_sort_same def k s t h i) (kinds_once ks r q m n) ∙ sym f

  keys_once : (ks : List Key) (a b : List ℕ) → AreSortsOfKeys def ks a → AreSortsOfKeys def ks b → a ≡ b
  keys_once [] a b p q = p ∙ sym q
  keys_once (k ∷ ks) a b (s, r, e, h, m) (t, q, f, i, n) = e ∙ ap₂ (λ (x : ℕ) (xs : List ℕ). x ∷ xs) (key_sort_same def k s t h i) (keys_once ks r q m n) ∙ sym f

  pub sorts_once : (ks : List Kind) (ns : List Key) (a b : List ℕ) → AreSortsAt def ks ns a → AreSortsAt def ks ns b → a ≡ b
  sorts_once ks ns a b (v, w, p, q, e) (x, y, r, s, f) = e ∙ ap₂ (λ (l m : List ℕ). l ++ m) (kinds_once ks v x p r) (keys_once ns w y q s) ∙ sym f

  -- ---- one kind or key after the other

  mapped_kind : {K : Type 0} (sort : K → SortId) (o : Option K) (s : SortId) → option_map sort o ≡ Some s → (k : K) × (o ≡ Some k) × ((sort k).0 ≡ s.0)
  mapped_kind sort None s e = absurd (cc)
  mapped_kind sort (Some k) s e = let f : sort k ≡ s = cc in (k, refl, ap (λ (x : SortId). x.0) f)

  unmapped : {K : Type 0} (sort : K → SortId) (o : Option K) → option_map sort o ≡ None → (k : K) → o ≡ Some k → ⊥
  unmapped sort None e k h = absurd (cc)
  unmapped sort (Some j) e k h = absurd (cc)

  pub sort_known : (k : Kind) (s : SortId) → kind_sort_of def k ≡ Some s → HasKindSort def k s.0
  sort_known (kinds.Phylum p) s e = mapped_kind (λ (k : Phylum). k.sort) (slice_get def.phyla p) s e
  sort_known (kinds.List l) s e = mapped_kind (λ (k : ListKind). k.sort) (slice_get def.lists l) s e

  pub sort_none : (k : Kind) → kind_sort_of def k ≡ None → (s : ℕ) → HasKindSort def k s → ⊥
  sort_none (kinds.Phylum p) e s (k, at, g) = unmapped (λ (k : Phylum). k.sort) (slice_get def.phyla p) e k at
  sort_none (kinds.List l) e s (k, at, g) = unmapped (λ (k : ListKind). k.sort) (slice_get def.lists l) e k at

  abbrev pub space_sort_of : ℕ → Option SortId
  space_sort_of n = option_map (λ (e : Space). e.sort) (slice_get def.spaces n)

  pub push_kind : (ks : List Kind) (ss : List ℕ) (k : Kind) (s : ℕ) → AreKindSorts def ks ss → HasKindSort def k s → AreKindSorts def (ks ++ k ∷ []) (ss ++ s ∷ [])
  push_kind [] ss k s e h = subst (λ (l : List ℕ). AreKindSorts def (k ∷ []) (l ++ s ∷ [])) (sym e) (s, [], refl, h, refl)
  push_kind (j ∷ ks) ss k s (t, r, e, i, m) h = subst (λ (l : List ℕ). AreKindSorts def ((j ∷ ks) ++ k ∷ []) (l ++ s ∷ [])) (sym e) (t, r ++ s ∷ [], refl, i, push_kind ks r k s m h)

  push_key : (ks : List Key) (ss : List ℕ) (k : Key) (s : ℕ) → AreSortsOfKeys def ks ss → HasSpaceSort def (space_of k) s → AreSortsOfKeys def (ks ++ k ∷ []) (ss ++ s ∷ [])
  push_key [] ss k s e h = subst (λ (l : List ℕ). AreSortsOfKeys def (k ∷ []) (l ++ s ∷ [])) (sym e) (s, [], refl, h, refl)
  push_key (j ∷ ks) ss k s (t, r, e, i, m) h = subst (λ (l : List ℕ). AreSortsOfKeys def ((j ∷ ks) ++ k ∷ []) (l ++ s ∷ [])) (sym e) (t, r ++ s ∷ [], refl, i, push_key ks r k s m h)

  pub kinds_next : (ks : List Kind) (i : ℕ) (k : Kind) (old new : List SortId) (s : SortId) → slice_get ks i ≡ Some k → kind_sort_of def k ≡ Some s → AreKindSorts def (take i ks) (numbers_of old) → new ≡ old ++ s ∷ []
      → AreKindSorts def (take (i + 1) ks) (numbers_of new)
  kinds_next ks i k old new s at e h made =
      subst (λ (l : List Kind). AreKindSorts def l (numbers_of new)) (sym (take_there ks i k at))
      (subst (AreKindSorts def (take i ks ++ k ∷ [])) (sym (ap numbers_of made ∙ numbers_more old s)) (push_kind (take i ks) (numbers_of old) k s.0 h (sort_known k s e)))

  pub kinds_none : (ks : List Kind) (i : ℕ) (k : Kind) → slice_get ks i ≡ Some k → kind_sort_of def k ≡ None → (sorts : List ℕ) → AreKindSorts def ks sorts → ⊥
  kinds_none [] i k at e sorts h = absurd (cc)
  kinds_none (j ∷ ks) zero k at e sorts (s, r, f, h, m) = let same : j ≡ k = cc in sort_none k e s (subst (λ (x : Kind). HasKindSort def x s) same h)
  kinds_none (j ∷ ks) (suc i) k at e sorts (s, r, f, h, m) = kinds_none ks i k at e r m

  pub kinds_end : (ks : List Kind) (i : ℕ) (sorts : List ℕ) → length ks ≤ i → AreKindSorts def (take i ks) sorts → AreKindSorts def ks sorts
  kinds_end ks i sorts le h = subst (λ (l : List Kind). AreKindSorts def l sorts) (take_all i ks le) h

  pub keys_next : (cs : List NameCol) (i : ℕ) (c : NameCol) (old new : List SortId) (s : SortId) → i < length cs → c ≡ get_or cs i c → space_sort_of c.space ≡ Some s → AreSortsOfKeys def (keys (take i cs)) (numbers_of old) → new ≡ old ++ s ∷ []
      → AreSortsOfKeys def (keys (take (i + 1) cs)) (numbers_of new)
  keys_next cs i c old new s lt at e h made =
      subst (λ (l : List Key). AreSortsOfKeys def l (numbers_of new)) (sym (ap keys (take_item cs i c lt at) ∙ map-append key_of (take i cs) (c ∷ [])))
      (subst (AreSortsOfKeys def (keys (take i cs) ++ key_of c ∷ [])) (sym (ap numbers_of made ∙ numbers_more old s))
      (push_key (keys (take i cs)) (numbers_of old) (key_of c) s.0 h (mapped_kind (λ (z : Space). z.sort) (slice_get def.spaces c.space) s e)))

  keys_missing : (cs : List NameCol) (i : ℕ) (c : NameCol) → slice_get cs i ≡ Some c → space_sort_of c.space ≡ None → (sorts : List ℕ) → AreSortsOfKeys def (keys cs) sorts → ⊥
  keys_missing [] i c at e sorts h = absurd (cc)
  keys_missing (d ∷ cs) zero c at e sorts (s, r, f, (x, there, g), m) =
      let same : d ≡ c = cc in
      unmapped (λ (z : Space). z.sort) (slice_get def.spaces c.space) e x (subst (λ (y : NameCol). slice_get def.spaces y.space ≡ Some x) same there)
  keys_missing (d ∷ cs) (suc i) c at e sorts (s, r, f, h, m) = keys_missing cs i c at e r m

  pub keys_none : (cs : List NameCol) (i : ℕ) (c : NameCol) → i < length cs → c ≡ get_or cs i c → space_sort_of c.space ≡ None → (sorts : List ℕ) → AreSortsOfKeys def (keys cs) sorts → ⊥
  keys_none cs i c lt at e sorts h = keys_missing cs i c (slice_get_item cs i c lt at) e sorts h

  pub keys_end : (cs : List NameCol) (i : ℕ) (sorts : List ℕ) → length cs ≤ i → AreSortsOfKeys def (keys (take i cs)) sorts → AreSortsOfKeys def (keys cs) sorts
  keys_end cs i sorts le h = subst (λ (l : List NameCol). AreSortsOfKeys def (keys l) sorts) (take_all i cs le) h

  -- the sorts of the values and then those of the entities
  pub both_sorts : (ks : List Kind) (ns : List Key) (values entities all : List SortId) → AreKindSorts def ks (numbers_of values) → AreSortsOfKeys def ns (numbers_of entities) → all ≡ values ++ entities → AreSortsAt def ks ns (numbers_of all)
  both_sorts ks ns values entities all p q e = (numbers_of values, numbers_of entities, p, q, ap numbers_of e ∙ numbers-append values entities)

  pub no_values : (ks : List Kind) (ns : List Key) → ((sorts : List ℕ) → AreKindSorts def ks sorts → ⊥) → (sorts : List ℕ) → AreSortsAt def ks ns sorts → ⊥
  no_values ks ns none sorts (v, w, p, q, e) = none v p

  pub no_entities : (ks : List Kind) (ns : List Key) → ((sorts : List ℕ) → AreSortsOfKeys def ns sorts → ⊥) → (sorts : List ℕ) → AreSortsAt def ks ns sorts → ⊥
  no_entities ks ns none sorts (v, w, p, q, e) = none w q

  -- the same of lists that are equal
  pub sorts_moved : (ks ls : List Kind) (cs ds : List NameCol) (sorts : List ℕ) → ls ≡ ks → ds ≡ cs → AreSortsAt def ls (keys ds) sorts → AreSortsAt def ks (keys cs) sorts
  sorts_moved ks ls cs ds sorts e d h = subst (λ (l : List Kind). AreSortsAt def l (keys cs) sorts) e (subst (λ (l : List NameCol). AreSortsAt def ls (keys l) sorts) d h)

  -- ---- the kinds of the children

  pub parts_slots : (xs : List Item) → slot_kinds def (part_items xs) ≡ slot_kinds def xs
  parts_slots [] = refl
  parts_slots (items.Slot k ∷ xs) = ap (λ (l : List Kind). k ∷ l) (parts_slots xs)
  parts_slots (items.Word w ∷ xs) = parts_slots xs
  parts_slots (items.Refers s ∷ xs) = parts_slots xs
  parts_slots (items.Declares s ∷ xs) = parts_slots xs
  parts_slots (items.Number ∷ xs) = parts_slots xs
  parts_slots (items.Text ∷ xs) = parts_slots xs
  parts_slots (items.Space ∷ xs) = parts_slots xs
  parts_slots (items.Tight ∷ xs) = parts_slots xs
  parts_slots (items.Line ∷ xs) = parts_slots xs
  parts_slots (items.In ∷ xs) = parts_slots xs
  parts_slots (items.Out ∷ xs) = parts_slots xs

  abbrev kinds_at_top : Fragment → List Kind
  kinds_at_top f = kinds_of_slots def (option_and_then (operator_at def) (top_operator f))

  -- an operator's node has a child for each slot that has been filled
  slots_left : (f : Fragment) (more : List Item) → HasParts def f more → length (children_of f) + length (slot_kinds def more) ≡ length (kinds_at_top f)
  slots_left (operator o) more (op, found, e) =
      let a : length (slot_kinds def more) ≡ length (slot_kinds def op.items) = ap (λ (l : List Item). length (slot_kinds def l)) e ∙ ap length (parts_slots op.items) in
      let b : length (kinds_at_top (operator o)) ≡ length (slot_kinds def op.items) = ap (λ (q : Option Operator). length (kinds_of_slots def q)) found in
      omega (arith, a, b)
  slots_left (with_child f t) more (k, h) =
      let i = slots_left f (items.Slot k ∷ more) h in
      let j = length-append (children_of f) (t ∷ []) in
      omega (arith, i, j)
  slots_left (with_name f n) more (inl (s, h)) = slots_left f (items.Refers s ∷ more) h
  slots_left (with_name f n) more (inr (s, h)) = slots_left f (items.Declares s ∷ more) h
  slots_left (with_number f n) more h = slots_left f (items.Number ∷ more) h
  slots_left (with_text f n) more h = slots_left f (items.Text ∷ more) h
  slots_left (hole p) more h = absurd h
  slots_left (ending l u) more h = absurd h
  slots_left (cell l e r) more h = absurd h
  slots_left anything more h = absurd h
  slots_left (observed f) more h = absurd h

  node_kinds : (f : Fragment) (kind : Kind) → WellFormed def f kind → IsSpine f → length (kinds_at_top f) ≡ length (children_of f)
  node_kinds f kind (fits, plain) s = let h = slots_left f [] (all_parts def f kind fits s) in omega (arith, h)

  -- a node takes as many children as there are kinds of them
  pub kinds_many : (f : Fragment) (kind : Kind) → WellFormed def f kind → length (kinds_below def f) ≡ children_count f
  kinds_many (hole p) kind h = refl
  kinds_many (ending l u) kind h = refl
  kinds_many (cell l e r) kind ((a, b, k, found, fe, fr, z), plain) = ap (λ (q : Option ListKind). length (kinds_of_cell l q)) found
  kinds_many (operator o) kind h = node_kinds (operator o) kind h tt
  kinds_many (with_child f t) kind h = node_kinds (with_child f t) kind h (real def (with_child f t) (kind, h)).2
  kinds_many (with_name f n) kind h = node_kinds (with_name f n) kind h (real def (with_name f n) (kind, h)).1
  kinds_many (with_number f n) kind h = node_kinds (with_number f n) kind h (real def (with_number f n) (kind, h)).1
  kinds_many (with_text f n) kind h = node_kinds (with_text f n) kind h (real def (with_text f n) (kind, h)).1
  kinds_many anything kind h = absurd h.0
  kinds_many (observed f) kind h = absurd h.1

  -- ---- the step

  -- a child is still to be added or was the last, with the keys so far; or the keys that end there were dropped
  abbrev IsAdding : Fragment → ℕ → List Key → Type 0
  IsAdding f n ks = (n ≤ children_count f) × (ks ≡ keys_at def f n)

  abbrev IsClosing : Fragment → ℕ → List Key → Type 0
  IsClosing f n ks = (n ≡ children_count f + 1) × (ks ≡ names_of def f)

  way : (f : Fragment) (n : ℕ) (ks : List Key) (q : Source) (o : Origin) → IsSource def f q ks o → IsNumbered def f n o → IsAdding f n ks ⊎ IsClosing f n ks
  way f n ks sources.Own from_itself (same, own) z = inl (omega (arith, z), same ∙ ap (keys_at def f) (sym z))
  way f n ks (sources.Pair b c l r) (from_pair m p q t) (e, g, x, y, k) (z, le) = inl (le, k ∙ ap (keys_at def f) (sym z))
  way f n ks (sources.Closed b i) (from_before p) (e, x, k) z = inr (z, k)
  way f n ks sources.Own (from_pair m p q t) h z = absurd h
  way f n ks sources.Own (from_before p) h z = absurd h
  way f n ks (sources.Pair b c l r) from_itself h z = absurd h
  way f n ks (sources.Pair b c l r) (from_before p) h z = absurd h
  way f n ks (sources.Closed b i) from_itself h z = absurd h
  way f n ks (sources.Closed b i) (from_pair m p q t) h z = absurd h

  module _ (f : Fragment) (n : ℕ) (ks : List Key) (formed : (k : Kind) × WellFormed def f k) (kind : Kind) (of : IsOfKind def f kind) (sorts : List ℕ) where
    none_left : n ≡ children_count f + 1 → drop n (kinds_below def f) ≡ []
    none_left z = let m = kinds_many f formed.0 formed.1 in over (kinds_below def f) n (omega (arith, z, m))

    abbrev AreThere : Type 0
    AreThere = AreSortsAt def (kind ∷ drop n (kinds_below def f)) ks sorts

    columns : (wanted : List Kind) (names : List Key) → drop n (kinds_below def f) ≡ wanted → ks ≡ names → AreThere → AreColumnSorts def f wanted names sorts
    columns wanted names e same (values, entities, (v, others, g, h, m), q, all) = record {
      kind = kind;
      of_kind = of;
      value = v;
      kind_sort = h;
      others = others;
      are_others = subst (λ (l : List Kind). AreKindSorts def l others) e m;
      entities = entities;
      are_entities = subst (λ (l : List Key). AreSortsOfKeys def l entities) same q;
      all = all ∙ ap (λ (l : List ℕ). l ++ entities) g;
    }

    back : (wanted : List Kind) (names : List Key) → drop n (kinds_below def f) ≡ wanted → ks ≡ names → AreColumnSorts def f wanted names sorts → AreThere
    back wanted names e same c = (
      c.value ∷ c.others,
      c.entities,
      (c.value, c.others, refl, subst (λ (k : Kind). HasKindSort def k c.value) (one_kind def f c.kind kind c.of_kind of) c.kind_sort, subst (λ (l : List Kind). AreKindSorts def l c.others) (sym e) c.are_others),
      subst (λ (l : List Key). AreSortsOfKeys def l c.entities) (sym same) c.are_entities,
      c.all,
    )

    to_step : IsAdding f n ks ⊎ IsClosing f n ks → AreThere → HasStepSorts def f n sorts
    to_step (inl (le, same)) h = adding le (columns (drop n (kinds_below def f)) (keys_at def f n) refl same h)
    to_step (inr (z, same)) h = closing z (columns [] (names_of def f) (none_left z) same h)

    from_step : IsAdding f n ks ⊎ IsClosing f n ks → HasStepSorts def f n sorts → AreThere
    from_step (inl (le, same)) (adding lf c) = back (drop n (kinds_below def f)) (keys_at def f n) refl same c
    from_step (inl (le, same)) (closing z c) = absurd (omega (arith, le, z))
    from_step (inr (z, same)) (adding le c) = absurd (omega (arith, le, z))
    from_step (inr (z, same)) (closing y c) = back [] (names_of def f) (none_left z) same c

  -- the sorts of a step are those that the program finds
  pub step_sorts : (stage : Stage) (s : Step) (kind : Kind) (found : List Kind) (sorts : List ℕ) → IsStage def stage s → IsOfKind def s.part kind → found ≡ kind ∷ drop s.number (kinds_below def s.part)
      → AreSortsAt def found (keys stage.header.names) sorts ↔ HasStepSorts def s.part s.number sorts
  step_sorts stage s kind found sorts is of e =
      let ks : List Key = keys stage.header.names in
      let w = way s.part s.number ks stage.source s.origin is.source is.numbered in (
        (λ h. to_step s.part s.number ks is.formed kind of sorts w (subst (λ (l : List Kind). AreSortsAt def l ks sorts) e h)),
        (λ h. subst (λ (l : List Kind). AreSortsAt def l ks sorts) (sym e) (from_step s.part s.number ks is.formed kind of sorts w h)),
      )

  -- ---- rows of these sorts

  module _ (stage : Stage) (found : List Kind) (rows : List (List Term)) where
    abbrev HasKinds : Type 0
    HasKinds = (s : Step) → IsStage def stage s → (kind : Kind) × IsOfKind def s.part kind × (found ≡ kind ∷ drop s.number (kinds_below def s.part))

    pub unsorted : HasKinds → ((sorts : List ℕ) → AreSortsAt def found (keys stage.header.names) sorts → ⊥) → (s : Step) → IsStage def stage s → AreClaimed def s.part s.number rows → ⊥
    unsorted has none s is claimed =
        let (kind, of, e) = has s is in
        none claimed.sorts ((step_sorts stage s kind found claimed.sorts is of e).1 claimed.are_sorts)

    module _ (has : HasKinds) (sorts : List ℕ) (are : AreSortsAt def found (keys stage.header.names) sorts) (s : Step) (is : IsStage def stage s) where
      pub claimed : AllByRecursion (IsClaimable def sorts) rows → AreClaimed def s.part s.number rows
      claimed each =
          let (kind, of, e) = has s is in
          record {
            sorts = sorts;
            are_sorts = (step_sorts stage s kind found sorts is of e).0 are;
            canonical = λ row at. (each_in (IsClaimable def sorts) row rows each at).0;
            sorted = λ row at. (each_in (IsClaimable def sorts) row rows each at).1;
          }

      pub claimable : AreClaimed def s.part s.number rows → (row : List Term) → IsIn row rows → IsClaimable def sorts row
      claimable h row at =
          let (kind, of, e) = has s is in
          let same : h.sorts ≡ sorts = sorts_once found (keys stage.header.names) h.sorts sorts ((step_sorts stage s kind found h.sorts is of e).1 h.are_sorts) are in
          (h.canonical row at, subst (λ (l : List ℕ). HaveSorts def.signature row l) same (h.sorted row at))

  -- what is said of the rows is what is wanted of the claim
  pub claimed_iff : (stage : Stage) (found : List Kind) (rows : List (List Term)) → HasKinds stage found rows → (sorts : List ℕ) → AreSortsAt def found (keys stage.header.names) sorts → (s : Step) → IsStage def stage s
      → (b : Bool) → IsTrue b ↔ AllByRecursion (IsClaimable def sorts) rows → IsTrue b ↔ AreClaimed def s.part s.number rows
  claimed_iff stage found rows has sorts are s is b h = (
    (λ t. claimed stage found rows has sorts are s is (h.0 t)),
    (λ k. h.1 (each_of rows (λ row at. claimable stage found rows has sorts are s is k row at))),
  )
    where
      each_of : (rs : List (List Term)) → ((row : List Term) → IsIn row rs → IsClaimable def sorts row) → AllByRecursion (IsClaimable def sorts) rs
      each_of [] g = tt
      each_of (r ∷ rs) g = (g r first, each_of rs (λ row at. g row (later at)))

  pub canonical_rows : (sorts : List ℕ) (rows : List (List Term)) → AllByRecursion (IsClaimable def sorts) rows → AreCanonical rows
  canonical_rows sorts [] h = tt
  canonical_rows sorts (r ∷ rows) (is, h) = ((def.signature, is.0), canonical_rows sorts rows h)

  pub rows_next : (sorts : List ℕ) (rows : List (List Term)) (i : ℕ) (row : List Term) → i < length rows → row ≡ get_or rows i row → AllByRecursion (IsClaimable def sorts) (take i rows) → IsClaimable def sorts row
      → AllByRecursion (IsClaimable def sorts) (take (i + 1) rows)
  rows_next sorts rows i row lt at each is = subst (AllByRecursion (IsClaimable def sorts)) (sym (take_item rows i row lt at)) (each_push (IsClaimable def sorts) (take i rows) row each is)

  pub rows_end : (sorts : List ℕ) (rows : List (List Term)) (i : ℕ) → length rows ≤ i → AllByRecursion (IsClaimable def sorts) (take i rows) → AllByRecursion (IsClaimable def sorts) rows
  rows_end sorts rows i le each = subst (AllByRecursion (IsClaimable def sorts)) (take_all i rows le) each

pub row_in : (rows : List (List Term)) (i : ℕ) (row : List Term) → i < length rows → row ≡ get_or rows i row → IsIn row rows
row_in rows i row lt at = in_at rows i row (slice_get_item rows i row lt at)
