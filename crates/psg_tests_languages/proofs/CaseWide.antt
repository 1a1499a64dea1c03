-- The first step that passes the limit on a relation, and what just does not pass it.
use Rattle.std.proofs.Common.{◌≡◌, ◌∙◌, ◌+◌, ◌*◌, ◌<◌, ◌≤◌, ◌++◌, ℕ, zero, suc, max, List, [], ◌∷◌, map, codes, Some, refl, sym, ap, ap₂, subst, slice_get, inl, inr, lit<, lit≤, arith}
use Rattle.std.specs.Prelude.{Any}
use Rattle.std.proofs.lemmas.Option.{none-some}
use Rattle.psg_terms.specs.Terms.{Term, variable, symbol, apply}
use Rattle.psg_terms.specs.Signature.{Signature, HasSort, only_constructor}
use Rattle.psg_terms.specs.Sound.{IsSound}
use Rattle.psg_terms.specs.Instances.{Substitution, substitute, IsGround, IsGrounding, IsGroundInstance}
use Rattle.psg_terms.specs.Canonical.{variables, IsNumberedFrom, IsWrittenOut, noted_all}
use Rattle.psg_terms.specs.Relations.{IsIn, first, later, IsRelation}
use Rattle.psg_terms.specs.Weight.{symbols_of, depth_of, weight_of, PassesLimit}
use Rattle.psg_grammar.specs.declared.types.Kind.TheVariants as kinds
use Rattle.psg_grammar.specs.declared.types.Item.TheVariants as items
use Rattle.psg_grammar.specs.declared.types.Row.{Row}
use Rattle.psg_grammar.specs.declared.types.Operator.{Operator}
use Rattle.psg_grammar.specs.declared.types.Definition.{Definition}
use Rattle.psg_grammar.specs.Fragments.{Fragment, operator, with_child, anything}
use Rattle.psg_grammar.specs.Legal.{Entities, AreEntities}
use Rattle.psg_grammar.specs.Open.{Choice, Holds}
use Rattle.psg_grammar.specs.Relations.{IsPossibleInside}
use Rattle.psg_grammar.specs.Steps.{Place, steps_of, PassesAt, IsFirstWide, IsWide}
use Rattle.psg_grammar.proofs.CaseLanguage.{constants, constant, row_of, op_of}
use Rattle.psg_eval.proofs.Passing.{step_passes, step_stays}
use Rattle.psg_tests_languages.proofs.CaseNeeds.{only_row}
use Rattle.psg_tests_languages.proofs.CaseOneRow.{one_row}

-- ---- terms of any size: int, box(t), pair(t,t)

abbrev towers : Signature
towers = record {
  sorts = codes "Type" ∷ [];
  symbols = constant (codes "int") 0 ∷ record { name = codes "box"; arguments = 0 ∷ []; sort = 0 } ∷ record { name = codes "pair"; arguments = 0 ∷ 0 ∷ []; sort = 0 } ∷ [];
}

abbrev int : Term
int = symbol 0

abbrev box : Term → Term
box t = apply (symbol 1) t

int_sorted : HasSort towers int 0
int_sorted = (constant (codes "int") 0, refl, refl, refl)

sound : IsSound towers
sound = record {
  sort_names = refl;
  constructor_names = refl;
  closed = (tt, lit< tt, ((lit< tt, tt), lit< tt, ((lit< tt, (lit< tt, tt)), lit< tt, tt)));
  inhabited = inhabited;
  constant = sole;
} where
  inhabited : (s : ℕ) → s < 1 → (t : Term) × IsGround t × HasSort towers t s
  inhabited zero lt = (int, tt, int_sorted)
  inhabited (suc s) lt = absurd (omega arith)

  sole : (s c : ℕ) → s < 1 → only_constructor towers s ≡ Some c → HasSort towers (symbol c) s
  sole zero c lt e = absurd (none-some c e)
  sole (suc s) c lt e = absurd (omega arith)

-- a term without variables, of the sort
record IsClosed (t : Term) : Type 0 where
  none : variables t ≡ []
  sorted : HasSort towers t 0
  written : IsWrittenOut towers t
  ground : IsGround t
  same : (f : Substitution) → substitute f t ≡ t

int_closed : IsClosed int
int_closed = record { none = refl; sorted = int_sorted; written = tt; ground = tt; same = λ f. refl }

box_closed : (t : Term) → IsClosed t → IsClosed (box t)
box_closed t c = record {
  none = c.none;
  sorted = (0, (record { name = codes "box"; arguments = 0 ∷ []; sort = 0 }, refl, refl, refl), c.sorted);
  written = (tt, c.written);
  ground = (tt, c.ground);
  same = λ f. ap (λ u. apply (symbol 1) u) (c.same f);
}

pair_closed : (t : Term) → IsClosed t → IsClosed (apply (apply (symbol 2) t) t)
pair_closed t c = record {
  none = ap₂ (λ xs ys. xs ++ ys) c.none c.none;
  sorted = (0, (0, (record { name = codes "pair"; arguments = 0 ∷ 0 ∷ []; sort = 0 }, refl, refl, refl), c.sorted), c.sorted);
  written = ((tt, c.written), c.written);
  ground = ((tt, c.ground), c.ground);
  same = λ f. ap₂ (λ u v. apply (apply (symbol 2) u) v) (c.same f) (c.same f);
}

-- n boxes round int
boxes : ℕ → Term
boxes zero = int
boxes (suc n) = box (boxes n)

boxes_closed : (n : ℕ) → IsClosed (boxes n)
unfolding boxes
boxes_closed zero = int_closed
boxes_closed (suc n) = box_closed (boxes n) (boxes_closed n)

depth-boxes : (n : ℕ) → depth_of (boxes n) ≡ n + 1
unfolding boxes
depth-boxes zero = refl
depth-boxes (suc n) = let e : depth_of (boxes n) ≡ n + 1 = depth-boxes n in let whole : max 1 (depth_of (boxes n) + 1) ≡ suc n + 1 = omega arith in whole

symbols-boxes : (n : ℕ) → symbols_of (boxes n) ≡ n + 1
unfolding boxes
symbols-boxes zero = refl
symbols-boxes (suc n) = let e : symbols_of (boxes n) ≡ n + 1 = symbols-boxes n in let whole : 1 + symbols_of (boxes n) ≡ suc n + 1 = omega arith in whole

-- a full tree of pairs, n deep
pairs : ℕ → Term
pairs zero = int
pairs (suc n) = apply (apply (symbol 2) (pairs n)) (pairs n)

pairs_closed : (n : ℕ) → IsClosed (pairs n)
unfolding pairs
pairs_closed zero = int_closed
pairs_closed (suc n) = pair_closed (pairs n) (pairs_closed n)

depth-pairs : (n : ℕ) → depth_of (pairs n) ≡ n + 1
unfolding pairs
depth-pairs zero = refl
depth-pairs (suc n) =
    let e : depth_of (pairs n) ≡ n + 1 = depth-pairs n in
    let whole : max (max 1 (depth_of (pairs n) + 1)) (depth_of (pairs n) + 1) ≡ suc n + 1 = omega arith in
    whole

-- one symbol fewer than this
abbrev doubled : ℕ → ℕ
doubled zero = 2
doubled (suc n) = 2 * doubled n

symbols-pairs : (n : ℕ) → symbols_of (pairs n) + 1 ≡ doubled n
unfolding pairs
symbols-pairs zero = refl
symbols-pairs (suc n) =
    let e : symbols_of (pairs n) + 1 ≡ doubled n = symbols-pairs n in
    let whole : 1 + symbols_of (pairs n) + symbols_of (pairs n) + 1 ≡ 2 * doubled n = omega arith in
    whole

-- ---- the limit on a row of one term

weighs : (t : Term) → weight_of ((t ∷ []) ∷ []) ≡ symbols_of t
weighs t = let whole : 0 + (0 + symbols_of t) ≡ symbols_of t = omega arith in whole

alone : {X : Type 0} (P : X → Type 0) (x : X) → Any P (x ∷ []) → P x
alone P x (zero, z, lt, e, p) = subst P (sym e) p
alone P x (suc k, z, lt, e, p) = absurd (omega arith)

deep_passes : (t : Term) → 1000 < depth_of t → PassesLimit ((t ∷ []) ∷ [])
deep_passes t lt = inr (0, t ∷ [], lit< tt, refl, (0, t, lit< tt, refl, lt))

heavy_passes : (t : Term) → 16384 < symbols_of t → PassesLimit ((t ∷ []) ∷ [])
heavy_passes t lt = inl (subst (λ n. 16384 < n) (sym (weighs t)) lt)

neither_passes : (t : Term) → depth_of t ≤ 1000 → symbols_of t ≤ 16384 → PassesLimit ((t ∷ []) ∷ []) → ⊥
neither_passes t shallow light (inl heavy) = let w : weight_of ((t ∷ []) ∷ []) ≡ symbols_of t = weighs t in let h : 16384 < symbols_of t = subst (λ n. 16384 < n) w heavy in absurd (omega arith)
neither_passes t shallow light (inr deep) = let d : 1000 < depth_of t = alone (λ u. 1000 < depth_of u) t (alone (Any (λ u. 1000 < depth_of u)) (t ∷ []) deep) in absurd (omega arith)

-- ---- `leaf`, whose value is the term, and `box` of an expression

abbrev op_leaf : Term → Operator
op_leaf t = op_of (codes "leaf") 0 (items.Word (codes "leaf") ∷ []) (row_of t [] ∷ [])

abbrev op_box : Operator
op_box = op_of (codes "box") 0 (items.Word (codes "box") ∷ items.Slot (kinds.Phylum 0) ∷ []) (row_of (box (variable 0 1)) (variable 0 1 ∷ []) ∷ [])

abbrev showing : Term → Definition
showing t = record constants { signature = towers; operators = op_leaf t ∷ op_box ∷ []; hole_rows = [] }

abbrev leaf : Fragment
leaf = operator 0

abbrev boxed : Fragment
boxed = with_child (operator 1) leaf

abbrev entities : Entities
entities k = int

are_entities : (t : Term) → AreEntities (showing t) entities
are_entities t = record { ground = λ k. tt; sorted = λ k e found. absurd (none-some e found) }

grounding : (u : Term) → IsGround u → HasSort towers u 0 → IsGrounding towers (λ s k. u)
grounding u ground sorted = record { variable_free = λ s k lt. ground; sorted = λ s k lt. let e : 0 ≡ s = omega arith in subst (λ z. HasSort towers u z) e sorted }

leaf_holds : (t : Term) → IsClosed t → Holds (showing t) entities leaf 0 [] t [] []
leaf_holds t c = (refl, record { op = op_leaf t; found = refl; row = row_of t []; chosen = refl; value = record { terms = λ s k. int; grounding = grounding int tt int_sorted; head = sym (c.same (λ s k. int)); rest = refl } })

leaf_value : (t : Term) (c : IsClosed t) (g : Entities) (k : ℕ) (v : Term) (before after : List Term) → Holds (showing t) g leaf k [] v before after → (before ≡ after) × (v ≡ t)
leaf_value t c g k v before after (seen, h) =
    (seen, h.value.head ∙ ap (λ (r : Row). substitute h.value.terms r.head) (only_row (showing t) 0 (op_leaf t) h.op (row_of t []) h.row k refl refl h.found h.chosen) ∙ c.same h.value.terms)

-- ---- the only step of a leaf

leaf_possible : (t : Term) → IsClosed t → IsPossibleInside (showing t) leaf 0 (t ∷ [])
leaf_possible t c = record { distinct = (refl, tt); inside = entities; entities = are_entities t; value = t; seen = []; holds = leaf_holds t c; columns_are = refl }

canonical_numbers : (t : Term) → IsClosed t → IsNumberedFrom 1 (noted_all [] (variables t ++ []))
canonical_numbers t c = subst (λ vs. IsNumberedFrom 1 (noted_all [] (vs ++ []))) (sym c.none) tt

closed_instance : (t : Term) → IsClosed t → IsGroundInstance towers (t ∷ []) (t ∷ [])
closed_instance t c = (λ s k. int, grounding int tt int_sorted, ap (λ u. u ∷ []) (sym (c.same (λ s k. int))))

-- whatever is an instance of the row is the row
instance_is : (t : Term) (c : IsClosed t) (columns : List Term) → IsGroundInstance towers (t ∷ []) columns → columns ≡ t ∷ []
instance_is t c columns (f, g, e) = e ∙ ap (λ u. u ∷ []) (c.same f)

leaf_only : (t : Term) (c : IsClosed t) (k : ℕ) (columns : List Term) → IsPossibleInside (showing t) leaf k columns → IsGroundInstance towers (t ∷ []) columns
leaf_only t c k columns p =
    let (unseen, value) = leaf_value t c p.inside k p.value p.seen [] p.holds in
    let made : columns ≡ t ∷ [] = p.columns_are ∙ ap₂ (λ v s. (v ∷ s) ++ []) value unseen in
    subst (IsGroundInstance towers (t ∷ [])) (sym made) (closed_instance t c)

leaf_relation : (t : Term) → IsClosed t → IsRelation towers (0 ∷ []) (IsPossibleInside (showing t) leaf) ((t ∷ []) ∷ [])
leaf_relation t c = one_row towers (0 ∷ []) ℕ (IsPossibleInside (showing t) leaf) (t ∷ [])
    record { numbered = canonical_numbers t c; written = (c.written, tt) } (c.sorted, tt) 0 (t ∷ [], leaf_possible t c)
    (λ columns i. subst (IsPossibleInside (showing t) leaf 0) (sym (instance_is t c columns i)) (leaf_possible t c))
    (leaf_only t c)

leaf_passes : (t : Term) → IsClosed t → PassesLimit ((t ∷ []) ∷ []) → PassesAt (showing t) leaf 0
leaf_passes t c passes = step_passes (showing t) leaf 0 (0 ∷ []) ((t ∷ []) ∷ []) (lit≤ tt) (leaf_relation t c) passes

leaf_stays : (t : Term) → IsClosed t → (PassesLimit ((t ∷ []) ∷ []) → ⊥) → PassesAt (showing t) leaf 0 → ⊥
leaf_stays t c light = step_stays (showing t) leaf sound 0 (0 ∷ []) ((t ∷ []) ∷ []) (lit≤ tt) (leaf_relation t c) light

-- A term with 1,000 boxes is 1,001 deep, and passes; with 999 boxes it does not.
too_deep : PassesAt (showing (boxes 1000)) leaf 0
too_deep = leaf_passes (boxes 1000) (boxes_closed 1000) (deep_passes (boxes 1000) (subst (λ n. 1000 < n) (sym (depth-boxes 1000)) (lit< tt)))

just_shallow : PassesAt (showing (boxes 999)) leaf 0 → ⊥
just_shallow = leaf_stays (boxes 999) (boxes_closed 999)
    (neither_passes (boxes 999) (subst (λ n. n ≤ 1000) (sym (depth-boxes 999)) (lit≤ tt)) (subst (λ n. n ≤ 16384) (sym (symbols-boxes 999)) (lit≤ tt)))

-- A full tree of pairs, 13 deep, has 16,383 symbols: with two boxes round it passes, with one it does not.
heavy : Term
heavy = box (pairs 13)

heavy_closed : IsClosed heavy
unfolding heavy
heavy_closed = box_closed (pairs 13) (pairs_closed 13)

symbols-heavy : symbols_of heavy ≡ 16384
unfolding heavy
symbols-heavy = let e : symbols_of (pairs 13) + 1 ≡ 16384 = symbols-pairs 13 in let whole : 1 + symbols_of (pairs 13) ≡ 16384 = omega arith in whole

depth-heavy : depth_of heavy ≡ 15
unfolding heavy
depth-heavy = let e : depth_of (pairs 13) ≡ 14 = depth-pairs 13 in let whole : max 1 (depth_of (pairs 13) + 1) ≡ 15 = omega arith in whole

too_heavy : PassesAt (showing (box heavy)) leaf 0
too_heavy = leaf_passes (box heavy) (box_closed heavy heavy_closed) (heavy_passes (box heavy) (let e : symbols_of heavy ≡ 16384 = symbols-heavy in let whole : 16384 < 1 + symbols_of heavy = omega arith in whole))

just_light : PassesAt (showing heavy) leaf 0 → ⊥
just_light = leaf_stays heavy heavy_closed (neither_passes heavy (let e : depth_of heavy ≡ 15 = depth-heavy in omega arith) (let e : symbols_of heavy ≡ 16384 = symbols-heavy in omega arith))

-- ---- the steps of a box round the leaf

abbrev open_row : List Term
open_row = box (variable 0 1) ∷ variable 0 1 ∷ []

open_possible : (t u : Term) → IsGround u → HasSort towers u 0 → IsPossibleInside (showing t) (with_child (operator 1) anything) (0, tt) (box u ∷ u ∷ [])
open_possible t u ground sorted = record {
  distinct = (refl, (tt, tt, (λ e. refl)));
  inside = entities;
  entities = are_entities t;
  value = box u;
  seen = u ∷ [];
  holds = (u, u ∷ [], entities, (refl, record { op = op_box; found = refl; row = _; chosen = refl; value = record { terms = λ s k. u; grounding = grounding u ground sorted; head = refl; rest = refl } }), are_entities t, refl, (refl, refl));
  columns_are = refl;
}

-- of a box the value is the box of its child's
box_value : (t : Term) (row : Row) (op : Operator) (r : ℕ) (v u : Term) → slice_get (showing t).operators 1 ≡ Some op → slice_get op.rows r ≡ Some row → row ≡ row_of (box (variable 0 1)) (variable 0 1 ∷ [])
box_value t row op r v u found chosen = only_row (showing t) 1 op_box op _ row r refl refl found chosen

open_only : (t : Term) (c : Choice (with_child (operator 1) anything)) (columns : List Term) → IsPossibleInside (showing t) (with_child (operator 1) anything) c columns → IsGroundInstance towers open_row columns
open_only t c columns p =
    let (u, mid, inner, (s1, h), ent, same, (none, s2)) = p.holds in
    let rows = box_value t h.row h.op c.0 p.value u h.found h.chosen in
    let head : p.value ≡ box (h.value.terms 0 1) = h.value.head ∙ ap (λ (r : Row). substitute h.value.terms r.head) rows in
    let rest : u ∷ [] ≡ h.value.terms 0 1 ∷ [] = h.value.rest ∙ ap (λ (r : Row). map (substitute h.value.terms) r.columns) rows in
    let seen : p.seen ≡ h.value.terms 0 1 ∷ [] = s1 ∙ s2 ∙ rest in
    (h.value.terms, h.value.grounding, p.columns_are ∙ ap₂ (λ v s. (v ∷ s) ++ []) head seen)

open_relation : (t : Term) → IsRelation towers (0 ∷ 0 ∷ []) (IsPossibleInside (showing t) (with_child (operator 1) anything)) (open_row ∷ [])
open_relation t = one_row towers (0 ∷ 0 ∷ []) (ℕ × Unit {0}) (IsPossibleInside (showing t) (with_child (operator 1) anything)) open_row
    record { numbered = (refl, tt); written = ((tt, refl), (refl, tt)) }
    ((0, (record { name = codes "box"; arguments = 0 ∷ []; sort = 0 }, refl, refl, refl), (lit< tt, refl, refl)), ((lit< tt, refl, refl), tt))
    (0, tt) (box int ∷ int ∷ [], open_possible t int tt int_sorted)
    (λ columns (f, g, e). subst (IsPossibleInside (showing t) (with_child (operator 1) anything) (0, tt)) (sym e) (open_possible t (f 0 1) (g.variable_free 0 1 (lit< tt)) (g.sorted 0 1 (lit< tt))))
    (open_only t)

open_light : PassesLimit (open_row ∷ []) → ⊥
open_light (inl heavy) = absurd (omega (arith, heavy))
open_light (inr deep) = two (alone (Any (λ u. 1000 < depth_of u)) open_row deep) where
  two : Any (λ u. 1000 < depth_of u) open_row → ⊥
  two (zero, z, lt, e, p) = let h : 1000 < 2 = subst (λ u. 1000 < depth_of u) (sym e) p in absurd (omega arith)
  two (suc zero, z, lt, e, p) = let h : 1000 < 1 = subst (λ u. 1000 < depth_of u) (sym e) p in absurd (omega arith)
  two (suc (suc k), z, lt, e, p) = absurd (omega arith)

open_stays : (t : Term) → PassesAt (showing t) boxed 0 → ⊥
open_stays t = step_stays (showing t) boxed sound 0 (0 ∷ 0 ∷ []) (open_row ∷ []) (lit≤ tt) (open_relation t) open_light

boxed_possible : (t : Term) → IsClosed t → IsPossibleInside (showing t) boxed (0, 0) (box t ∷ [])
boxed_possible t c = record {
  distinct = (refl, (tt, tt, (λ e. refl)));
  inside = entities;
  entities = are_entities t;
  value = box t;
  seen = [];
  holds = (t, [], entities, (refl, record { op = op_box; found = refl; row = _; chosen = refl; value = record { terms = λ s k. t; grounding = grounding t c.ground c.sorted; head = refl; rest = refl } }), are_entities t, refl, leaf_holds t c);
  columns_are = refl;
}

boxed_only : (t : Term) (c : IsClosed t) (k : Choice boxed) (columns : List Term) → IsPossibleInside (showing t) boxed k columns → IsGroundInstance towers (box t ∷ []) columns
boxed_only t c k columns p =
    let (u, mid, inner, (s1, h), ent, same, child) = p.holds in
    let (s2, value) = leaf_value t c inner k.1 u mid [] child in
    let rows = box_value t h.row h.op k.0 p.value u h.found h.chosen in
    let head : p.value ≡ box (h.value.terms 0 1) = h.value.head ∙ ap (λ (r : Row). substitute h.value.terms r.head) rows in
    let rest : u ∷ [] ≡ h.value.terms 0 1 ∷ [] = h.value.rest ∙ ap (λ (r : Row). map (substitute h.value.terms) r.columns) rows in
    let inside : h.value.terms 0 1 ≡ t = cc in
    let made : columns ≡ box t ∷ [] = p.columns_are ∙ ap₂ (λ v s. (v ∷ s) ++ []) (head ∙ ap (λ w. box w) inside) (s1 ∙ s2) in
    subst (IsGroundInstance towers (box t ∷ [])) (sym made) (closed_instance (box t) (box_closed t c))

boxed_relation : (t : Term) → IsClosed t → IsRelation towers (0 ∷ []) (IsPossibleInside (showing t) boxed) ((box t ∷ []) ∷ [])
boxed_relation t c =
    let whole = box_closed t c in
    one_row towers (0 ∷ []) (ℕ × ℕ) (IsPossibleInside (showing t) boxed) (box t ∷ [])
    record { numbered = canonical_numbers (box t) whole; written = (whole.written, tt) } (whole.sorted, tt) (0, 0) (box t ∷ [], boxed_possible t c)
    (λ columns i. subst (IsPossibleInside (showing t) boxed (0, 0)) (sym (instance_is (box t) whole columns i)) (boxed_possible t c))
    (boxed_only t c)

-- ---- the first step that is too wide

abbrev place : List ℕ → Fragment → ℕ → Place
place path part step = record { path = path; part = part; step = step }

boxed_steps : (t : Term) → steps_of (showing t) [] boxed ≡ place (0 ∷ []) leaf 0 ∷ place [] boxed 0 ∷ place [] boxed 1 ∷ []
boxed_steps t = refl

-- the box passes with its child, where the term is 1,000 deep: neither the leaf nor the box without its child does
module _ (t : Term) (c : IsClosed t) where
  last_passes : depth_of t ≡ 1000 → PassesAt (showing t) boxed 1
  last_passes e = step_passes (showing t) boxed 1 (0 ∷ []) ((box t ∷ []) ∷ []) (lit≤ tt) (boxed_relation t c) (deep_passes (box t) (let whole : 1000 < max 1 (depth_of t + 1) = omega arith in whole))

  last_stays : depth_of t ≤ 999 → symbols_of t ≤ 16383 → PassesAt (showing t) boxed 1 → ⊥
  last_stays shallow light = step_stays (showing t) boxed sound 1 (0 ∷ []) ((box t ∷ []) ∷ []) (lit≤ tt) (boxed_relation t c)
      (neither_passes (box t) (let whole : max 1 (depth_of t + 1) ≤ 1000 = omega arith in whole) (let whole : 1 + symbols_of t ≤ 16384 = omega arith in whole))

  earlier_stays : depth_of t ≤ 1000 → symbols_of t ≤ 16384 → (k : ℕ) (earlier : Place) → k < 2 → slice_get (steps_of (showing t) [] boxed) k ≡ Some earlier → PassesAt (showing t) earlier.part earlier.step → ⊥
  earlier_stays shallow light zero earlier lt e p =
      let same : earlier ≡ place (0 ∷ []) leaf 0 = let f : Some (place (0 ∷ []) leaf 0) ≡ Some earlier = e in cc in
      leaf_stays t c (neither_passes t shallow light) (subst (λ (l : Place). PassesAt (showing t) l.part l.step) same p)
  earlier_stays shallow light (suc zero) earlier lt e p =
      let same : earlier ≡ place [] boxed 0 = let f : Some (place [] boxed 0) ≡ Some earlier = e in cc in
      open_stays t (subst (λ (l : Place). PassesAt (showing t) l.part l.step) same p)
  earlier_stays shallow light (suc (suc k)) earlier lt e p = absurd (omega arith)

  first_wide : depth_of t ≡ 1000 → symbols_of t ≤ 16384 → IsFirstWide (showing t) boxed (place [] boxed 1)
  first_wide deep light = record { number = 2; found = refl; passes = last_passes deep; first = earlier_stays (omega arith) light }

  none_wide : depth_of t ≤ 999 → symbols_of t ≤ 16383 → IsWide (showing t) boxed → ⊥
  none_wide shallow light (at, among, p) = refuted at among p where
    refuted : (at : Place) → IsIn at (place (0 ∷ []) leaf 0 ∷ place [] boxed 0 ∷ place [] boxed 1 ∷ []) → PassesAt (showing t) at.part at.step → ⊥
    refuted at first p = leaf_stays t c (neither_passes t (omega arith) (omega arith)) p
    refuted at (later first) p = open_stays t p
    refuted at (later (later first)) p = last_stays shallow light p
    refuted at (later (later (later h))) p = elim h [ ]

-- Step 1 of the root is the first of three, where the leaf has 999 boxes; where it has 998, there is none.
first_of_three : IsFirstWide (showing (boxes 999)) boxed (place [] boxed 1)
first_of_three = first_wide (boxes 999) (boxes_closed 999) (depth-boxes 999) (subst (λ n. n ≤ 16384) (sym (symbols-boxes 999)) (lit≤ tt))

first_of_none : IsWide (showing (boxes 998)) boxed → ⊥
first_of_none = none_wide (boxes 998) (boxes_closed 998) (subst (λ n. n ≤ 999) (sym (depth-boxes 998)) (lit≤ tt)) (subst (λ n. n ≤ 16383) (sym (symbols-boxes 998)) (lit≤ tt))
