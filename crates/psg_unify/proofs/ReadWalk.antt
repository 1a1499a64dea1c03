-- A walk over cells that gives each of them a value once.
use Rattle.std.proofs.Common.{◌≡◌, ◌≢◌, ◌⊎◌, ◌==◌, ◌&&◌, ◌||◌, inl, inr, Bool, true, false, not, ℕ, ◌<◌, ◌≤◌, Option, Some, None, List, [], ◌∷◌, ◌++◌, map, reverse, length, slice_get, get_or, set, All, refl, ap, ap₂, sym, ◌∙◌, subst, arith}
use Rattle.std.proofs.lemmas.Bool.{eq-eqb, eqb-true, eqb-false, false≢true, cases_Bool, both_ways}
use Rattle.std.proofs.lemmas.List.{length-set, reverse-reverse}
use Rattle.std.proofs.lemmas.Option.{slice_get-get_or}
use Rattle.std.proofs.lemmas.List.Elements.{All-weaker, All-cons, All-head, All-tail}
use Rattle.psg_terms.proofs.Lists.{in_cases}
use Rattle.psg_terms.specs.Relations.{IsIn, first, later}
use Rattle.psg_pool.specs.declared.cells.CellId.{CellId}
use Rattle.psg_pool.specs.declared.cells.Cell.TheVariants.{Free}
use Rattle.psg_pool.specs.Cells.{IsAmong, arguments_of}
use Rattle.psg_pool.specs.Bindings.{Kept, IsSound, Holds}
use Rattle.psg_pool.proofs.Places.{slice_get-set_other, slice_get-set_same}
use Rattle.psg_unify.specs.declared.walking.Item.{Item}
use Rattle.psg_unify.specs.declared.walking.Item.TheVariants.{Visit, Leave}
use Rattle.psg_unify.specs.Fitting.{Falls}
use Rattle.psg_unify.specs.Solved.{Reaches, here, by_binding, by_argument}
use Rattle.psg_unify.specs.Counting.{count_below}
use Rattle.psg_unify.specs.Circles.{IsEdge, HasCircle, cell_of, IsStack, HasNext}
use Rattle.psg_unify.specs.Filling.{IsFilled, IsKept, IsFilling, is_opened, is_value, is_fresh, fresh}
use Rattle.psg_unify.proofs.Closing.{in_all}
use Rattle.psg_unify.proofs.Counts.{count_fewer, count_less}
use Rattle.psg_unify.proofs.Rounds.{same_cell, leave_met, nothing_in, on_top, stack_next, due_more, due_known, due_next, due_visits, edge_there, visits_path, visits_within, all_visits}

-- terms that were there are there
pub still_filled : {X : Type 0} → (old new : List (Option X)) (id : CellId) → IsKept old new id → (x : CellId) → IsFilled old x → IsFilled new x
still_filled {X} old new id (t, e) x (u, g) = elim (cases_Bool (x.0 == id.0)) [
  | inl same ↦ (
      let at = eqb-true x.0 id.0 same in
      (t, ap₂ (λ (w : List (Option X)) (n : ℕ). slice_get w n) e at ∙ slice_get-set_same old id.0 (Some t) (Some u) (ap (slice_get old) (sym at) ∙ g)))
  | inr f ↦ (u, ap (λ (w : List (Option X)). slice_get w x.0) e ∙ slice_get-set_other old x.0 id.0 (Some t) (eqb-false x.0 id.0 f) ∙ g)
]

here_at : {X : Type 0} → (old new : List (Option X)) (id : CellId) (t : X) → new ≡ set old id.0 (Some t) → id.0 < length old → slice_get new id.0 ≡ Some (Some t)
here_at {X} old new id t e l =
    ap (λ (w : List (Option X)). slice_get w id.0) e ∙ slice_get-set_same old id.0 (Some t) (get_or old id.0 None) (slice_get-get_or old id.0 None l)

pub value_here : {X : Type 0} → (old new : List (Option X)) (id : CellId) → IsKept old new id → id.0 < length old → IsFilled new id
value_here old new id (t, e) l = (t, here_at old new id t e l)

kept_count : {X : Type 0} → (old new : List (Option X)) (id : CellId) → IsKept old new id → length new ≡ length old
kept_count old new id (t, e) = ap length e ∙ length-set old id.0 (Some t)

-- a cell that is to be left is not among visits
in_visits : (x : CellId) (xs : List CellId) (rest : List Item) → IsIn (Leave x) (map (λ (a : CellId). Visit a) xs ++ rest) → IsIn (Leave x) rest
in_visits x [] rest i = i
in_visits x (y ∷ xs) rest i = elim (in_cases (Leave x) (Visit y) (map (λ (a : CellId). Visit a) xs ++ rest) i) [
  | inl e ↦ (cc)
  | inr j ↦ in_visits x xs rest j
]

no_leave : (x : CellId) (xs : List CellId) → IsIn (Leave x) (map (λ (a : CellId). Visit a) xs) → ⊥
no_leave x [] i = nothing_in (Leave x) i
no_leave x (y ∷ xs) i = elim (in_cases (Leave x) (Visit y) (map (λ (a : CellId). Visit a) xs) i) [
  | inl e ↦ (cc)
  | inr j ↦ no_leave x xs j
]

module _ (kept : Kept) (cells : List CellId) where
  -- a visit to a cell that was written
  pub filling_known : {X : Type 0} → (w : List (Option X)) (id : CellId) (rest : List Item) → IsFilled w id → IsFilling kept cells w (Visit id ∷ rest) → IsFilling kept cells w rest
  filling_known w id rest h r = record {
    path = r.path.1;
    due = due_known kept (λ (x : CellId). IsIn x cells) (IsFilled w) id rest h r.due;
    within = All-tail (λ (i : Item). IsAmong kept.cells (cell_of i)) (Visit id) rest r.within;
    leads = λ x s i. r.leads x s (later i);
    count = r.count;
  }

  -- a cell was written in place of being visited
  pub filling_open : {X : Type 0} → (old new : List (Option X)) (id : CellId) (rest : List Item) → IsKept old new id → IsFilling kept cells old (Visit id ∷ rest) → IsFilling kept cells new rest
  filling_open old new id rest k r = record {
    path = r.path.1;
    due = due_more kept (λ (x : CellId). IsIn x cells) (λ (x : CellId). (x ≡ id) ⊎ IsFilled old x) (IsFilled new)
        (λ x e. elim e [ inl same ↦ subst (IsFilled new) (sym same) own | inr h ↦ still_filled old new id k x h ]) rest r.due;
    within = All-tail (λ (i : Item). IsAmong kept.cells (cell_of i)) (Visit id) rest r.within;
    leads = λ x s i. r.leads x s (later i);
    count = kept_count old new id k ∙ r.count;
  } where
    own : IsFilled new id
    own = value_here old new id k (let l = All-head (λ (i : Item). IsAmong kept.cells (cell_of i)) (Visit id) rest r.within in let n = r.count in omega (arith, l, n))

  -- a cell was written and left
  pub filling_left : {X : Type 0} → (old new : List (Option X)) (id : CellId) (rest : List Item) → IsKept old new id → IsFilling kept cells old (Leave id ∷ rest) → IsFilling kept cells new rest
  filling_left old new id rest k r = record {
    path = r.path.1;
    due = due_more kept (λ (x : CellId). IsIn x cells) (λ (x : CellId). (x ≡ id) ⊎ IsFilled old x) (IsFilled new)
        (λ x e. elim e [ inl same ↦ subst (IsFilled new) (sym same) own | inr h ↦ still_filled old new id k x h ]) rest r.due.1;
    within = All-tail (λ (i : Item). IsAmong kept.cells (cell_of i)) (Leave id) rest r.within;
    leads = λ x s i. r.leads x s (later i);
    count = kept_count old new id k ∙ r.count;
  } where
    own : IsFilled new id
    own = value_here old new id k (let l = All-head (λ (i : Item). IsAmong kept.cells (cell_of i)) (Leave id) rest r.within in let n = r.count in omega (arith, l, n))

  -- what a cell leads to is visited first
  pub filling_next : {X : Type 0} → IsSound kept → (w : List (Option X)) (id : CellId) (rest new : List Item) → ((s : ℕ) → Holds kept id (Free s) → ⊥) → HasNext kept id (Leave id ∷ rest) new
      → IsFilling kept cells w (Visit id ∷ rest) → IsFilling kept cells w new
  filling_next sound w id rest new leads h r = subst (IsFilling kept cells w) (sym h.stack) (record {
    path = stack_next kept id h.cells rest h.next r.path;
    due = due_next kept (λ (x : CellId). IsIn x cells) (IsFilled w) id h.cells rest (λ to e. inr (h.each to e)) r.due;
    within = visits_within kept (IsAmong kept.cells) h.cells (Leave id ∷ rest)
        (All-weaker (IsEdge kept id) (IsAmong kept.cells) (λ to e. edge_there kept sound id to e) h.cells h.next)
        (All-cons (λ (i : Item). IsAmong kept.cells (cell_of i)) (Leave id) rest (All-head (λ (i : Item). IsAmong kept.cells (cell_of i)) (Visit id) rest r.within)
        (All-tail (λ (i : Item). IsAmong kept.cells (cell_of i)) (Visit id) rest r.within));
    leads = λ x s i o. elim (in_cases (Leave x) (Leave id) rest (in_visits x h.cells (Leave id ∷ rest) i)) [
      | inl e ↦ (let same : x ≡ id = cc in leads s (subst (λ (c : CellId). Holds kept c (Free s)) same o))
      | inr j ↦ r.leads x s (later j) o
    ];
    count = r.count;
  })

  -- the cells are to be visited
  pub filling_begins : {X : Type 0} → (w : List (Option X)) (stack : List Item) → stack ≡ reverse (map (λ (a : CellId). Visit a) cells) → length w ≡ length kept.cells → All (IsAmong kept.cells) cells → IsFilling kept cells w (reverse stack)
  filling_begins w stack e n a = subst (IsFilling kept cells w) (sym (ap reverse e ∙ reverse-reverse (map (λ (x : CellId). Visit x) cells))) (record {
    path = visits_path kept cells;
    due = due_visits kept (λ (x : CellId). IsIn x cells) (IsFilled w) cells (λ x i. inr i);
    within = all_visits kept (IsAmong kept.cells) cells a;
    leads = λ x s i _. no_leave x cells i;
    count = n;
  })

  -- the cell on top of the stack is there
  pub filling_top : {X : Type 0} → (w : List (Option X)) (i : Item) (rest : List Item) → IsFilling kept cells w (i ∷ rest) → IsAmong kept.cells (cell_of i) × ((cell_of i).0 < length w)
  filling_top w i rest r =
      let l = All-head (λ (j : Item). IsAmong kept.cells (cell_of j)) i rest r.within in
      let n = r.count in
      (l, omega (arith, l, n))

  -- in the end all cells have their terms
  pub filling_ends : {X : Type 0} → (w : List (Option X)) → IsFilling kept cells w [] → All (IsFilled w) cells
  filling_ends w r = every cells (λ x i. r.due x i) where
    every : (xs : List CellId) → ((x : CellId) → IsIn x xs → IsFilled w x) → All (IsFilled w) xs
    every [] h = λ k d l. absurd (omega (arith, l))
    every (x ∷ xs) h = All-cons (IsFilled w) x xs (h x first) (every xs (λ y i. h y (later i)))

-- a cell that is left has the terms of its arguments
pub arguments_have : {X : Type 0} → (kept : Kept) (cells : List CellId) (w : List (Option X)) (id : CellId) (rest : List Item) → IsFilling kept cells w (Leave id ∷ rest) → All (IsFilled w) (arguments_of kept.cells id)
arguments_have kept cells w id rest r = every (arguments_of kept.cells id) (λ x i. r.due.0 x (inr i)) where
  every : (xs : List CellId) → ((x : CellId) → IsIn x xs → IsFilled w x) → All (IsFilled w) xs
  every [] h = λ k d l. absurd (omega (arith, l))
  every (x ∷ xs) h = All-cons (IsFilled w) x xs (h x first) (every xs (λ y i. h y (later i)))

-- tests of cells that are neither written nor to be left
both_false : (a b : Bool) → (not a && not b) ≡ true → (a ≡ false) × (b ≡ false)
both_false false false e = (refl, refl)
both_false false true e = absurd (cc)
both_false true b e = absurd (cc)

both_not : (a b : Bool) → a ≡ false → b ≡ false → (not a && not b) ≡ true
both_not a b e f = ap₂ (λ x y. not x && not y) e f

no_value : {X : Type 0} → (o : Option (Option X)) → ((t : X) → o ≡ Some (Some t) → ⊥) → is_value o ≡ false
no_value None h = refl
no_value (Some None) h = refl
no_value (Some (Some t)) h = absurd (h t refl)

opened_visits : (k : ℕ) (xs : List CellId) (rest : List Item) → is_opened (map (λ (a : CellId). Visit a) xs ++ rest) k ≡ is_opened rest k
opened_visits k [] rest = refl
opened_visits k (x ∷ xs) rest = opened_visits k xs rest

-- what is new is not written
old_fresh : {X : Type 0} → (old new : List (Option X)) (id : CellId) (k : ℕ) → IsKept old new id → id.0 < length old → is_value (slice_get new k) ≡ false → (id.0 ≢ k) × (is_value (slice_get old k) ≡ false)
old_fresh {X} old new id k (t, e) l f = elim (cases_Bool (id.0 == k)) [
  | inl same ↦ absurd (
      let at = eqb-true id.0 k same in
      both_ways (is_value (slice_get new k)) f (ap is_value (ap (slice_get new) (sym at) ∙ here_at old new id t e l)))
  | inr other ↦ (
      let d = eqb-false id.0 k other in
      (d, ap is_value (sym (ap (λ (w : List (Option X)). slice_get w k) e ∙ slice_get-set_other old k id.0 (Some t) (λ s. d (sym s)))) ∙ f))
]

by_length : {X : Type 0} → (old new : List (Option X)) (id : CellId) (rest : List Item) → IsKept old new id → count_below (length old) (is_fresh new rest) ≡ fresh new rest
by_length old new id rest k = ap (λ (n : ℕ). count_below n (is_fresh new rest)) (sym (kept_count old new id k))

-- where a cell is left that was written, no more cells are fresh
pub fresh_left : {X : Type 0} → (old new : List (Option X)) (id : CellId) (rest : List Item) → IsKept old new id → id.0 < length old → fresh new rest ≤ fresh old (Leave id ∷ rest)
fresh_left old new id rest k l =
    let c = count_fewer (length old) (is_fresh old (Leave id ∷ rest)) (is_fresh new rest) (λ n _ f.
    let both = both_false (is_value (slice_get new n)) (is_opened rest n) f in
    let was = old_fresh old new id n k l both.0 in
    both_not (is_value (slice_get old n)) (is_opened (Leave id ∷ rest) n) was.1 (ap₂ (λ x y. x || y) (not_here id.0 n was.0) both.1)) in
    let e = by_length old new id rest k in
    omega (arith, c, e) where
      not_here : (a b : ℕ) → a ≢ b → (a == b) ≡ false
      not_here a b d = elim (cases_Bool (a == b)) [
        | inl t ↦ absurd (d (eqb-true a b t))
        | inr f ↦ f
      ]

-- where a fresh cell is written, fewer are fresh
pub fresh_open : {X : Type 0} → (old new : List (Option X)) (id : CellId) (rest : List Item) → IsKept old new id → id.0 < length old → (IsFilled old id → ⊥) → is_opened rest id.0 ≡ false → fresh new rest < fresh old (Visit id ∷ rest)
fresh_open {X} old new id rest k l none o =
    let c = count_less (length old) (is_fresh old rest) (is_fresh new rest) (λ n _ f.
    let both = both_false (is_value (slice_get new n)) (is_opened rest n) f in
    both_not (is_value (slice_get old n)) (is_opened rest n) (old_fresh old new id n k l both.0).1 both.1)
    id.0 l (both_not (is_value (slice_get old id.0)) (is_opened rest id.0) (no_value (slice_get old id.0) (λ t g. none (t, g))) o)
    (written_now (value_here old new id k l)) in
    let e = by_length old new id rest k in
    omega (arith, c, e) where
      written_now : IsFilled new id → is_fresh new rest id.0 ≡ false
      written_now (t, g) = ap (λ (x : Option (Option X)). not (is_value x) && not (is_opened rest id.0)) g

-- and where it is opened
pub fresh_next : {X : Type 0} → (w : List (Option X)) (id : CellId) (xs : List CellId) (rest : List Item) → id.0 < length w → (IsFilled w id → ⊥) → is_opened rest id.0 ≡ false
    → fresh w (map (λ (a : CellId). Visit a) xs ++ Leave id ∷ rest) < fresh w (Visit id ∷ rest)
fresh_next w id xs rest l none o =
    count_less (length w) (is_fresh w rest) (is_fresh w (map (λ (a : CellId). Visit a) xs ++ Leave id ∷ rest)) (λ n _ f.
    let both = both_false (is_value (slice_get w n)) (is_opened (map (λ (a : CellId). Visit a) xs ++ Leave id ∷ rest) n) f in
    both_not (is_value (slice_get w n)) (is_opened rest n) both.0 (rest_of (id.0 == n) (is_opened rest n) (sym (opened_visits n xs (Leave id ∷ rest)) ∙ both.1)))
    id.0 l (both_not (is_value (slice_get w id.0)) (is_opened rest id.0) (no_value (slice_get w id.0) (λ t g. none (t, g))) o)
    (opened_now (is_value (slice_get w id.0)) (is_opened (map (λ (a : CellId). Visit a) xs ++ Leave id ∷ rest) id.0)
    (opened_visits id.0 xs (Leave id ∷ rest) ∙ ap (λ (b : Bool). b || is_opened rest id.0) (eq-eqb id.0 id.0 refl))) where
      rest_of : (a b : Bool) → (a || b) ≡ false → b ≡ false
      rest_of true b e = absurd (cc)
      rest_of false b e = e

      opened_now : (a b : Bool) → b ≡ true → (not a && not b) ≡ false
      opened_now true b e = refl
      opened_now false b e = ap not e

-- where cells fall, none leads back to itself
module _ (kept : Kept) (height : CellId → ℕ) (falls : Falls kept height) where
  edge_falls : (x to : CellId) → IsEdge kept x to → height to < height x
  edge_falls x to e = elim e [
    | inl t ↦ falls.bound x to t
    | inr i ↦ in_all (λ (a : CellId). height a < height x) to (arguments_of kept.cells x) i (falls.con x)
  ]

  way_falls : (x y : CellId) → Reaches kept x y → height y ≤ height x
  way_falls x _ (here _) = omega arith
  way_falls x y (by_binding _ z _ t rest) = (let a = edge_falls x z (inl t) in let b = way_falls z y rest in omega (arith, a, b))
  way_falls x y (by_argument _ z _ i rest) = (let a = edge_falls x z (inr i) in let b = way_falls z y rest in omega (arith, a, b))

  pub falls_round : HasCircle kept → ⊥
  falls_round (x, y, way, e) = let a = way_falls x y way in let b = edge_falls y x e in omega (arith, a, b)

-- where none does, the cell on top is not to be left
opened_in : (rest : List Item) (id : CellId) → is_opened rest id.0 ≡ true → IsIn (Leave id) rest
opened_in [] id e = absurd (false≢true e)
opened_in (Visit y ∷ rest) id e = later (opened_in rest id e)
opened_in (Leave y ∷ rest) id e = elim (cases_Bool (y.0 == id.0)) [
  | inl t ↦ subst (λ (c : CellId). IsIn (Leave id) (Leave c ∷ rest)) (same_cell id y (sym (eqb-true y.0 id.0 t))) first
  | inr f ↦ later (opened_in rest id (ap (λ (b : Bool). b || is_opened rest id.0) (sym f) ∙ e))
]

pub not_opened : (kept : Kept) → (HasCircle kept → ⊥) → (id : CellId) (rest : List Item) → IsStack kept (Visit id ∷ rest) → is_opened rest id.0 ≡ false
not_opened kept none id rest p = elim (cases_Bool (is_opened rest id.0)) [
  | inl t ↦ absurd (none (leave_met kept id rest (opened_in rest id t) p))
  | inr f ↦ f
]

-- an item was taken from the stack
pub taken : {X : Type 0} → (kept : Kept) (cells : List CellId) (w : List (Option X)) (old new : List Item) (i j : Item) → old ≡ new ++ i ∷ [] → i ≡ j → IsFilling kept cells w (reverse old) → IsFilling kept cells w (j ∷ reverse new)
taken kept cells w old new i j e is r =
    subst (λ (k : Item). IsFilling kept cells w (k ∷ reverse new)) is (subst (IsFilling kept cells w) (on_top new old i e) r)

pub taken_fresh : {X : Type 0} → (w : List (Option X)) (old new : List Item) (i j : Item) → old ≡ new ++ i ∷ [] → i ≡ j → fresh w (j ∷ reverse new) ≡ fresh w (reverse old)
taken_fresh w old new i j e is = sym (ap (fresh w) (on_top new old i e ∙ ap (λ (k : Item). k ∷ reverse new) is))
