-- What a solver leaves in a pool into which two rows were put.
use Rattle.std.proofs.Common.{◌≡◌, ◌⊎◌, inl, inr, ℕ, zero, suc, ◌<◌, ◌≤◌, ◌+◌, ◌-◌, ◌==◌, cond, nat_le, true, false, Option, Some, None, List, [], ◌∷◌, ◌++◌, map, reverse, take, drop, length, slice_get, replicate, All, refl, ap, ap₂, sym, ◌∙◌, subst, arith, append-nil, append_assoc, length-append}
use Rattle.std.proofs.lemmas.Bool.{eqb-true, cases_Bool}
use Rattle.std.proofs.lemmas.Bool.Decides.{nat_tests}
use Rattle.std.proofs.lemmas.Option.{slice_get_within}
use Rattle.std.proofs.lemmas.List.Elements.{All-weaker, All-cons, All-head, All-tail, All-append}
use Rattle.std.proofs.Math.Seq.{take-append_seam, take-length}
use Rattle.std.proofs.lemmas.List.{map-append, length-map}
use Rattle.psg_terms.specs.Terms.{Term}
use Rattle.psg_terms.specs.Signature.{Signature, HaveSorts}
use Rattle.psg_terms.specs.Instances.{substitute, IsGroundInstance}
use Rattle.psg_terms.specs.Relations.{IsIn, first, later}
use Rattle.psg_terms.proofs.SoundChoices.{choices}
use Rattle.psg_pool.specs.declared.cells.CellId.{CellId}
use Rattle.psg_pool.specs.declared.cells.Binding.{Binding}
use Rattle.psg_pool.specs.Cells.{Put, free, IsAmong, arguments_in, arguments_of}
use Rattle.psg_pool.specs.Bindings.{Kept, target_of, IsSound}
use Rattle.psg_pool.proofs.Places.{some_or_none, slice_get-append, slice_get_none}
use Rattle.psg_pool.proofs.Links.{target_of_here, target_of_there}
use Rattle.psg_pool.proofs.Following.{target_of-append, target_of-append_none}
use Rattle.psg_pool.specs.Marks.{Lengths, IsReleasable}
use Rattle.psg_unify.specs.declared.classes.Classes.{Classes}
use Rattle.psg_unify.specs.Pairs.{Pair, AreOfEqualSort, IsAgreeing}
use Rattle.psg_unify.specs.Reading.{Reading, IsReading}
use Rattle.psg_unify.specs.Fitting.{Fits, Falls, sort_at}
use Rattle.psg_unify.specs.Valuations.{Equation, IsValuation, Solves}
use Rattle.psg_unify.specs.Solved.{Reaches, here, by_binding, by_argument, IsGrown, by_old, IsSolvedIn}
use Rattle.psg_unify.specs.Putting.{IsLonger}
use Rattle.psg_unify.specs.Joined.{IsNext, IsFrom, IsSolving}
use Rattle.psg_unify.specs.Meeting.{IsMoreBound, StaysSolving, HasNoValuation, CanSolve}
use Rattle.psg_unify.specs.Climbing.{AreFrom, IsGoing}
use Rattle.psg_unify.specs.Circles.{IsEdge, HasCircle, IsClosed, FallsFrom}
use Rattle.psg_unify.specs.Asking.{AskFor, ArePut, IsExtended}
use Rattle.psg_unify.proofs.Laws.{over_at, All-both}
use Rattle.psg_unify.proofs.SortsRead.{cells_sorts}
use Rattle.psg_unify.proofs.Closing.{in_all, map-twice, state_end}
use Rattle.psg_unify.proofs.Rounds.{on_top, nothing_in, no_circle}
use Rattle.psg_unify.proofs.Patched.{patch, patch-grounding, values_of, IsFull}
use Rattle.psg_unify.proofs.Climbs.{climbing_begins}
use Rattle.psg_unify.proofs.SolvedRows.{asked_both, asked_agree, agree_asked, full_under, valuation_under, left_among, read_put, reads_put, left_same, right_same, rows_apart, left_sorts, right_sorts, left_length, right_length, put_bindings, agreeing_values, solving_begins}

-- what holds of all members
pub every_in : {X : Type 0} (P : X → Type 0) (xs : List X) → ((x : X) → IsIn x xs → P x) → All P xs
every_in P [] h = λ k d l. absurd (omega (arith, l))
every_in P (x ∷ xs) h = All-cons P x xs (h x first) (every_in P xs (λ y i. h y (later i)))

-- what a later binding binds
target_in : (base : ℕ) (bs : List Binding) (id to : CellId) → All (IsFrom base) bs → target_of bs id ≡ Some to → (base ≤ id.0) × (base ≤ to.0)
target_in base [] id to h e = let none : None ≡ Some to = e in cc
target_in base (b ∷ rest) id to h e = elim (cases_Bool (b.bound.0 == id.0)) [
  | inl t ↦ (
      let own = All-head (IsFrom base) b rest h in
      let at : Some b.target ≡ Some to = sym (target_of_here b rest id (eqb-true b.bound.0 id.0 t)) ∙ e in
      let same : b.target ≡ to = cc in
      let place = eqb-true b.bound.0 id.0 t in
      (omega (arith, own.0, place), subst (λ (c : CellId). base ≤ c.0) same own.1))
  | inr f ↦ target_in base rest id to (All-tail (IsFrom base) b rest h) (sym (target_of_there b rest id f) ∙ e)
]

-- arguments of a cell that was there before
arguments_before : (old more : List Put) (id : CellId) → id.0 < length old → arguments_of (old ++ more) id ≡ arguments_of old id
arguments_before old more id l = elim (some_or_none (slice_get old id.0)) [
  | inl n ↦ absurd (let past = slice_get_none old id.0 n in omega (arith, past, l))
  | inr s ↦ ap arguments_in (slice_get-append old more id.0 s.0 s.1) ∙ sym (ap arguments_in s.1)
]

pub extended_longer : (old new : Kept) → IsLonger old new → IsExtended old new
extended_longer old new l = record {
  cells = l.cells;
  cells_are = l.cells_are;
  bindings = [];
  bindings_are = l.bindings_are ∙ sym (append-nil old.bindings);
}

pub extended_bound : (old mid new : Kept) → IsLonger old mid → IsMoreBound mid new → IsExtended old new
extended_bound old mid new l m = record {
  cells = l.cells;
  cells_are = m.cells_are ∙ l.cells_are;
  bindings = m.bindings;
  bindings_are = m.bindings_are ∙ ap (λ b. b ++ m.bindings) l.bindings_are;
}

-- a pool that was extended goes back to what it was
module _ (old now : Kept) (mark : Lengths) (c : mark.cells ≡ length old.cells) (b : mark.bindings ≡ length old.bindings) (e : IsExtended old now) where
  pub goes_back : (new : Kept) → new.cells ≡ take mark.cells now.cells → new.bindings ≡ take mark.bindings now.bindings → new ≡ old
  goes_back new cells bindings = ap₂ (λ x y. record { cells = x; bindings = y })
      (cells ∙ ap₂ take c e.cells_are ∙ take-append_seam old.cells e.cells)
      (bindings ∙ ap₂ take b e.bindings_are ∙ take-append_seam old.bindings e.bindings)

  pub may_go_back : IsReleasable old mark → IsReleasable now mark
  may_go_back r = record {
    cells = let l = ap (λ (x : List Put). length x) e.cells_are in omega (arith, c, l, length-append old.cells e.cells);
    bindings = let l = ap (λ (x : List Binding). length x) e.bindings_are in omega (arith, b, l, length-append old.bindings e.bindings);
    stay = subst (All (λ (x : Binding). (x.bound.0 < mark.cells) × (x.target.0 < mark.cells)))
        (ap (λ n. take n old.bindings) b ∙ take-length old.bindings ∙ sym (ap₂ take b e.bindings_are ∙ take-append_seam old.bindings e.bindings)) r.stay;
  }

-- how many cells were put
pub put_count : (old put : Kept) (start count : ℕ) → start ≡ length old.cells → count ≡ length put.cells → IsLonger old put → length old.cells + (count - start) ≡ length put.cells
put_count old put start count s c l = let e = ap (λ (x : List Put). length x) l.cells_are in omega (arith, s, c, e, length-append old.cells l.cells)

-- the equations of no pairs, and of one more in front
pub ask_none : (lefts rights : List CellId) (pairs : List Pair) (equations : List Equation) → equations ≡ [] → AskFor lefts rights (drop (length pairs) pairs) (reverse equations)
ask_none lefts rights pairs equations e =
    subst (λ l. AskFor lefts rights l (reverse equations)) (sym (none pairs)) (subst (λ l. AskFor lefts rights [] (reverse l)) (sym e) tt) where
      none : (ps : List Pair) → drop (length ps) ps ≡ []
      none [] = refl
      none (p ∷ ps) = none ps

pub ask_more : (lefts rights : List CellId) (pairs : List Pair) (old new : List Equation) (k j : ℕ) (p : Pair) (a b : CellId) → k ≡ suc j → slice_get pairs j ≡ Some p
    → slice_get lefts p.0 ≡ Some a → slice_get rights p.1 ≡ Some b → new ≡ old ++ (a, b) ∷ [] → AskFor lefts rights (drop k pairs) (reverse old) → AskFor lefts rights (drop j pairs) (reverse new)
ask_more lefts rights pairs old new k j p a b n at x y e h =
    subst (λ l. AskFor lefts rights l (reverse new)) (sym (one pairs j at))
    (subst (AskFor lefts rights (p ∷ drop (suc j) pairs)) (sym (on_top old new (a, b) e)) (x, y, subst (λ m. AskFor lefts rights (drop m pairs) (reverse old)) n h)) where
      one : (ps : List Pair) (j : ℕ) → slice_get ps j ≡ Some p → drop j ps ≡ p ∷ drop (suc j) ps
      one [] j e = let none : None ≡ Some p = e in cc
      one (q ∷ ps) zero e = let same : q ≡ p = cc in ap (λ r. r ∷ ps) same
      one (q ∷ ps) (suc j) e = one ps j e

within : (ls rs : List ℕ) (n m : ℕ) (pairs : List Pair) → length ls ≡ n → length rs ≡ m → AreOfEqualSort ls rs pairs → All (λ (p : Pair). (p.0 < n) × (p.1 < m)) pairs
within ls rs n m [] a b h = λ k d l. absurd (omega (arith, l))
within ls rs n m (p ∷ pairs) a b (s, h) =
    let x = slice_get_within ls p.0 s.0 s.1 in
    let y = slice_get_within rs p.1 s.0 s.2 in
    All-cons (λ (q : Pair). (q.0 < n) × (q.1 < m)) p pairs (omega (arith, a, x), omega (arith, b, y)) (within ls rs n m pairs a b h)

module _ (sig : Signature) (left right : List Term) (pairs : List Pair) (old mid put : Kept) (lefts rights : List CellId) (p : ArePut sig left right pairs old mid put lefts rights) where
  pub pairs_within : All (λ (q : Pair). (q.0 < length lefts) × (q.1 < length rights)) pairs
  pairs_within = within p.joinable.left_sorts p.joinable.right_sorts (length lefts) (length rights) pairs
      (sym (length-map p.joinable.left_sorts (λ (n : ℕ). Some n))
      ∙ ap (λ (l : List (Option ℕ)). length l) (sym (left_sorts sig left right pairs old mid put lefts rights p p.joinable.left_sorts p.joinable.left_sorted)) ∙ length-map lefts (sort_at sig put.cells))
      (sym (length-map p.joinable.right_sorts (λ (n : ℕ). Some n))
      ∙ ap (λ (l : List (Option ℕ)). length l) (sym (right_sorts sig left right pairs old mid put lefts rights p p.joinable.right_sorts p.joinable.right_sorted)) ∙ length-map rights (sort_at sig put.cells))
      p.joinable.equal

  mid_longer : length old.cells ≤ length mid.cells
  mid_longer = let e = ap (λ (c : List Put). length c) p.one.longer.cells_are in omega (arith, e, length-append old.cells p.one.longer.cells)

  -- arguments of a cell that was put
  pub put_arguments : (id : CellId) → length old.cells ≤ id.0 → All (λ (a : CellId). length old.cells ≤ a.0) (arguments_of put.cells id)
  put_arguments id b = elim (cases_at id) [
    | inl l ↦ subst (All (λ (a : CellId). length old.cells ≤ a.0)) (sym (ap (λ c. arguments_of c id) p.two.longer.cells_are ∙ arguments_before mid.cells p.two.longer.cells id l)) (p.one.apart id b)
    | inr l ↦ All-weaker (λ (a : CellId). length mid.cells ≤ a.0) (λ (a : CellId). length old.cells ≤ a.0)
        (λ a m. let e = mid_longer in omega (arith, m, e)) (arguments_of put.cells id) (p.two.apart id l)
  ] where
    cases_at : (id : CellId) → (id.0 < length mid.cells) ⊎ (length mid.cells ≤ id.0)
    cases_at id = elim (cases_Bool (nat_le (length mid.cells) id.0)) [
      | inl t ↦ inr (grind (arith, nat_tests))
      | inr f ↦ inl (grind (arith, nat_tests))
    ]

  -- the solver goes on from here
  pub going_begins : (equations : List Equation) (classes : Classes) (n : ℕ) → AskFor lefts rights pairs equations → classes.base ≡ length old.cells → classes.next.items ≡ replicate n None → classes.heights.items ≡ replicate n 0
      → length old.cells + n ≡ length put.cells → IsGoing put classes equations
  going_begins equations classes n asks base next heights count = record {
    climbing = climbing_begins put classes n next heights (omega (arith, base, count)) (λ id l. unbound id (let b = base in omega (arith, l, b)));
    closed = λ id l. subst (λ (b : ℕ). All (λ (a : CellId). b ≤ a.0) (arguments_of put.cells id)) (sym base) (put_arguments id (let b = base in omega (arith, l, b)));
    left_from = subst (λ (b : ℕ). All (AreFrom b) equations) (sym base)
        (asked_both (λ (a : CellId). length old.cells ≤ a.0) lefts rights pairs equations p.one.beyond
        (All-weaker (λ (a : CellId). length mid.cells ≤ a.0) (λ (a : CellId). length old.cells ≤ a.0) (λ a m. let e = mid_longer in omega (arith, m, e)) rights p.two.beyond) asks);
  } where
    unbound : (id : CellId) → length old.cells ≤ id.0 → target_of put.bindings id ≡ None
    unbound id l = elim (some_or_none (target_of old.bindings id)) [
      | inl none ↦ ap (λ b. target_of b id) (put_bindings sig left right pairs old mid put lefts rights p) ∙ none
      | inr o ↦ absurd (
          let over = over_at old.cells old.bindings id o.0 p.sound.over o.1 in
          let within = slice_get_within old.cells id.0 (free over.0.0) over.0.1 in
          omega (arith, l, within))
    ]

  pub can_solve : (equations : List Equation) (classes : Classes) → AskFor lefts rights pairs equations → ((id to : CellId) → IsNext classes id to → ⊥) → CanSolve put classes equations
  can_solve equations classes asks none = record {
    sig = sig;
    bs = old.bindings;
    asked = equations;
    apart = [];
    solving = solving_begins sig left right pairs old mid put lefts rights p equations classes classes.base asks none;
  }

  -- without a valuation there are no instances that agree
  pub clash_none : (equations : List Equation) (classes : Classes) → AskFor lefts rights pairs equations → ((id to : CellId) → IsNext classes id to → ⊥) → HasNoValuation put classes equations
      → (values : List Term) → IsAgreeing sig left right pairs values → ⊥
  clash_none equations classes asks none unsolved values a =
      let h = agreeing_values sig left right pairs old mid put lefts rights p values a in
      unsolved sig old.bindings equations [] (solving_begins sig left right pairs old mid put lefts rights p equations classes classes.base asks none) h.v h.valuation
      (subst (λ k. Solves k h.v) (put_bindings sig left right pairs old mid put lefts rights p) h.solves) (agree_asked h.v lefts rights pairs equations asks h.agree)

  -- what the solver keeps, from where it began
  pub solved_state : (equations : List Equation) (before after : Classes) (new : Kept) → AskFor lefts rights pairs equations → ((id to : CellId) → IsNext before id to → ⊥) → before.base ≡ length old.cells
      → StaysSolving put new before after equations [] → (others : List Equation) × IsSolving sig (length old.cells) old.bindings equations new after others []
  solved_state equations before after new asks none base stays =
      subst (λ n. (others : List Equation) × IsSolving sig n old.bindings equations new after others []) base
      (stays sig old.bindings equations [] (solving_begins sig left right pairs old mid put lefts rights p equations before before.base asks none))

module _ (sig : Signature) (left right : List Term) (pairs : List Pair) (old mid put new : Kept) (lefts rights : List CellId) (p : ArePut sig left right pairs old mid put lefts rights)
    (equations : List Equation) (asks : AskFor lefts rights pairs equations) (classes : Classes) (apart : List Equation) (more : IsMoreBound put new) (sound : IsSound new)
    (s : IsSolving sig (length old.cells) old.bindings equations new classes apart []) where
  cells_are : new.cells ≡ old.cells ++ (p.one.longer.cells ++ p.two.longer.cells)
  cells_are = more.cells_are ∙ p.two.longer.cells_are ∙ ap (λ l. l ++ p.two.longer.cells) p.one.longer.cells_are ∙ append_assoc old.cells p.one.longer.cells p.two.longer.cells

  pub grown_solved : IsGrown old new
  grown_solved = record {
    cells = p.one.longer.cells ++ p.two.longer.cells;
    cells_are = cells_are;
    bindings = s.more;
    bindings_are = s.bindings_are;
    own = All-weaker (IsFrom (length old.cells)) (λ (b : Binding). length old.cells ≤ b.bound.0) (λ b h. h.0) s.more s.from;
  }

  -- a binding of a new cell
  new_target : (id to : CellId) → length old.cells ≤ id.0 → target_of new.bindings id ≡ Some to → length old.cells ≤ to.0
  new_target id to b t = elim (some_or_none (target_of old.bindings id)) [
    | inl n ↦ (target_in (length old.cells) s.more id to s.from (sym (target_of-append_none old.bindings s.more id n) ∙ ap (λ l. target_of l id) (sym s.bindings_are) ∙ t)).1
    | inr o ↦ (
        let over = over_at old.cells old.bindings id o.0 p.sound.over o.1 in
        let l = slice_get_within old.cells id.0 (free over.0.0) over.0.1 in
        absurd (omega (arith, l, b)))
  ]

  -- a binding of an old cell
  old_target : (id to : CellId) → id.0 < length old.cells → target_of new.bindings id ≡ Some to → target_of old.bindings id ≡ Some to
  old_target id to l t = elim (some_or_none (target_of old.bindings id)) [
    | inl n ↦ (
        let from = target_in (length old.cells) s.more id to s.from (sym (target_of-append_none old.bindings s.more id n) ∙ ap (λ l. target_of l id) (sym s.bindings_are) ∙ t) in
        absurd (omega (arith, l, from.0)))
    | inr o ↦ (
        let x : Some o.0 ≡ Some to = sym (target_of-append old.bindings s.more id o.0 o.1) ∙ ap (λ l. target_of l id) (sym s.bindings_are) ∙ t in
        o.1 ∙ x)
  ]

  -- arguments of a new cell
  new_arguments : (id : CellId) → length old.cells ≤ id.0 → All (λ (a : CellId). length old.cells ≤ a.0) (arguments_of new.cells id)
  new_arguments id b = subst (λ c. All (λ (a : CellId). length old.cells ≤ a.0) (arguments_of c id)) (sym more.cells_are) (put_arguments sig left right pairs old mid put lefts rights p id b)

  -- new cells lead to new cells alone
  pub closed_solved : IsClosed (length old.cells) new
  closed_solved id to b e = elim e [
    | inl t ↦ new_target id to b t
    | inr i ↦ in_all (λ (c : CellId). length old.cells ≤ c.0) to (arguments_of new.cells id) i (new_arguments id b)
  ]

  old_within : length old.cells ≤ length new.cells
  old_within = let e = ap (λ (c : List Put). length c) cells_are in omega (arith, e, length-append old.cells (p.one.longer.cells ++ p.two.longer.cells))

  pub closed_both : (base : ℕ) → base ≡ length old.cells → (base ≤ length new.cells) × IsClosed base new
  closed_both base e = (let l = old_within in omega (arith, l, e), subst (λ (b : ℕ). IsClosed b new) (sym e) closed_solved)

  reached : (a b : CellId) → length old.cells ≤ a.0 → Reaches new a b → length old.cells ≤ b.0
  reached a _ l (here _) = l
  reached a b l (by_binding _ x _ t rest) = reached x b (new_target a x l t) rest
  reached a b l (by_argument _ x _ i rest) = reached x b (in_all (λ (c : CellId). length old.cells ≤ c.0) x (arguments_of new.cells a) i (new_arguments a l)) rest

  all_beyond : All (λ (id : CellId). length old.cells ≤ id.0) (lefts ++ rights)
  all_beyond = All-append (λ (id : CellId). length old.cells ≤ id.0) lefts rights p.one.beyond
      (All-weaker (λ (id : CellId). length mid.cells ≤ id.0) (λ (id : CellId). length old.cells ≤ id.0)
      (λ a m. let e = ap (λ (c : List Put). length c) p.one.longer.cells_are in omega (arith, m, e, length-append old.cells p.one.longer.cells)) rights p.two.beyond)

  all_among : All (IsAmong new.cells) (lefts ++ rights)
  all_among = subst (λ c. All (IsAmong c) (lefts ++ rights)) (sym more.cells_are)
      (All-append (IsAmong put.cells) lefts rights (left_among sig left right pairs old mid put lefts rights p) p.two.among)

  -- a circle leaves no instances that agree
  pub circle_none : HasCircle new → (values : List Term) → IsAgreeing sig left right pairs values → ⊥
  circle_none c values a =
      let h = agreeing_values sig left right pairs old mid put lefts rights p values a in
      let val : IsValuation new.cells h.v = subst (λ k. IsValuation k h.v) (sym more.cells_are) h.valuation in
      let past : Solves old.bindings h.v = subst (λ k. Solves k h.v) (put_bindings sig left right pairs old mid put lefts rights p) h.solves in
      no_circle new sound h.v val (s.state.to h.v val past (agree_asked h.v lefts rights pairs equations asks h.agree)).0 c

  -- where new cells fall, all do
  module _ (height : CellId → ℕ) (falls : FallsFrom new (length old.cells) height) where
    abbrev both_heights : CellId → ℕ
    both_heights id = cond (nat_le (length old.cells) id.0) (height id) (p.fits.height id)

    at_new : (id : CellId) → length old.cells ≤ id.0 → both_heights id ≡ height id
    at_new id l = let t : nat_le (length old.cells) id.0 ≡ true = grind (arith, nat_tests) in ap (λ b. cond b (height id) (p.fits.height id)) t

    at_old : (id : CellId) → id.0 < length old.cells → both_heights id ≡ p.fits.height id
    at_old id l = let t : nat_le (length old.cells) id.0 ≡ false = grind (arith, nat_tests) in ap (λ b. cond b (height id) (p.fits.height id)) t

    place_of : (id : CellId) → (id.0 < length old.cells) ⊎ (length old.cells ≤ id.0)
    place_of id = elim (cases_Bool (nat_le (length old.cells) id.0)) [
      | inl t ↦ inr (grind (arith, nat_tests))
      | inr f ↦ inl (grind (arith, nat_tests))
    ]

    new_edge : (id to : CellId) → length old.cells ≤ id.0 → id.0 < length new.cells → IsEdge new id to → both_heights to < both_heights id
    new_edge id to b l e =
        let f = falls id b l to e in
        let x = at_new id b in
        let y = at_new to f.0 in
        omega (arith, x, y, f.1)

    all_fall : Falls new both_heights
    all_fall = record {
      bound = λ id to t. elim (place_of id) [
        | inl l ↦ (
            let o = old_target id to l t in
            let f = p.fits.falls.bound id to o in
            let x = at_old id l in
            let y = at_old to (over_at old.cells old.bindings id to p.sound.over o).1 in
            omega (arith, f, x, y))
        | inr b ↦ (
            let over = over_at new.cells new.bindings id to sound.over t in
            new_edge id to b (slice_get_within new.cells id.0 (free over.0.0) over.0.1) (inl t))
      ];
      con = λ id. elim (place_of id) [
        | inl l ↦ subst (All (λ a. both_heights a < both_heights id)) (sym (ap (λ c. arguments_of c id) cells_are ∙ arguments_before old.cells (p.one.longer.cells ++ p.two.longer.cells) id l))
            (All-both (λ a. p.fits.height a < p.fits.height id) (λ a. a.0 < id.0) (λ a. both_heights a < both_heights id)
            (λ a f m.
            let x = at_old id l in
            let y = at_old a (omega (arith, m, l)) in
            omega (arith, f, x, y)) (arguments_of old.cells id) (p.fits.falls.con id) (p.sound.arguments id))
        | inr b ↦ every_in (λ a. both_heights a < both_heights id) (arguments_of new.cells id) (λ a i. new_edge id a b (inside id a i) (inr i))
      ];
    } where
      inside : (id a : CellId) → IsIn a (arguments_of new.cells id) → id.0 < length new.cells
      inside id a i = elim (some_or_none (slice_get new.cells id.0)) [
        | inl n ↦ absurd (nothing_in a (subst (IsIn a) (ap arguments_in n) i))
        | inr o ↦ slice_get_within new.cells id.0 o.0 o.1
      ]

    fits_solved : Fits sig new
    fits_solved = record { puts = s.puts; sorts = s.sorts; height = both_heights; falls = all_fall }

    module _ (read : Reading) (r : IsReading new read) where
      old_solved : (v : Reading) → Solves new.bindings v → Solves put.bindings v
      old_solved v sol id to t = sol id to (subst (λ l. target_of l id ≡ Some to) (sym s.bindings_are)
          (target_of-append old.bindings s.more id to (subst (λ l. target_of l id ≡ Some to) (put_bindings sig left right pairs old mid put lefts rights p) t)))

      to_agreeing : (values : List Term) → IsGroundInstance sig (map read (lefts ++ rights)) values → IsAgreeing sig left right pairs values
      to_agreeing values (g, grounds, e) =
          let v : Reading = λ id. substitute g (read id) in
          let val = valuation_under new read r g in
          let sol : Solves new.bindings v = λ id to t. ap (substitute g) (r.bound_cell id to t) in
          let full : IsFull sig put.cells v = subst (λ c. IsFull sig c v) more.cells_are (full_under sig new sound fits_solved read r g grounds) in
          let below : IsValuation put.cells v = subst (λ c. IsValuation c v) more.cells_are val in
          let k = choices sig p.signature in
          let before = read_put sig left right pairs old mid put lefts rights p in
          let reads = reads_put sig left right pairs old mid put lefts rights p in
          let on = λ (ids : List CellId) (i : All (IsAmong put.cells) ids).
          values_of sig put p.two.sound p.two.fits.height p.two.fits.falls before v reads below (old_solved v sol) k.some ids i in
          let grounding = patch-grounding sig put.cells v k full in (
            map v lefts,
            map v rights,
            (left_same sig left right pairs old mid put lefts rights p before reads p.joinable.left_sorts p.joinable.left_sorted).1 (map v lefts)
                (patch sig put.cells v k.some, grounding, on lefts (left_among sig left right pairs old mid put lefts rights p)),
            (right_same sig left right pairs old mid put lefts rights p before reads p.joinable.right_sorts p.joinable.right_sorted).1 (map v rights)
                (patch sig put.cells v k.some, grounding, on rights p.two.among),
            asked_agree v lefts rights pairs equations asks (state_end new.cells old.bindings equations new.bindings apart s.state v val sol),
            e ∙ sym (map-twice v read (substitute g) (lefts ++ rights) (every_in (λ x. v x ≡ substitute g (read x)) (lefts ++ rights) (λ x i. refl))) ∙ map-append v lefts rights,
          )

      from_agreeing : (values : List Term) → IsAgreeing sig left right pairs values → IsGroundInstance sig (map read (lefts ++ rights)) values
      from_agreeing values a =
          let h = agreeing_values sig left right pairs old mid put lefts rights p values a in
          let val : IsValuation new.cells h.v = subst (λ k. IsValuation k h.v) (sym more.cells_are) h.valuation in
          let full : IsFull sig new.cells h.v = subst (λ k. IsFull sig k h.v) (sym more.cells_are) h.full in
          let past : Solves old.bindings h.v = subst (λ k. Solves k h.v) (put_bindings sig left right pairs old mid put lefts rights p) h.solves in
          let sol = (s.state.to h.v val past (agree_asked h.v lefts rights pairs equations asks h.agree)).0 in
          let k = choices sig p.signature in (
            patch sig new.cells h.v k.some,
            patch-grounding sig new.cells h.v k full,
            h.values_are ∙ values_of sig new sound both_heights all_fall read h.v r val sol k.some (lefts ++ rights) all_among,
          )

      read_sorted : (ls rs : List ℕ) → HaveSorts sig left ls → HaveSorts sig right rs → HaveSorts sig (map read (lefts ++ rights)) (ls ++ rs)
      read_sorted ls rs hl hr =
          cells_sorts sig new sound fits_solved read r (lefts ++ rights) (ls ++ rs) all_among
          (
          ap (λ c. map (sort_at sig c) (lefts ++ rights)) more.cells_are
          ∙ map-append (sort_at sig put.cells) lefts rights
          ∙ ap₂ (λ x y. x ++ y) (left_sorts sig left right pairs old mid put lefts rights p ls hl) (right_sorts sig left right pairs old mid put lefts rights p rs hr)
          ∙ sym (map-append (λ (n : ℕ). Some n) ls rs)
          )

    before_is_put : by_old old new ≡ put
    before_is_put = ap₂ (λ c b. record { cells = c; bindings = b }) more.cells_are (sym (put_bindings sig left right pairs old mid put lefts rights p))

    pub solved_in : (cells : List CellId) → cells ≡ lefts ++ rights → IsSolvedIn sig left right pairs old new cells
    solved_in cells c = subst (IsSolvedIn sig left right pairs old new) (sym c) (record {
      fits = fits_solved;
      grown = grown_solved;
      lefts = lefts;
      rights = rights;
      columns = refl;
      left_count = left_length sig left right pairs old mid put lefts rights p;
      right_count = right_length sig left right pairs old mid put lefts rights p;
      among = all_among;
      alone = λ id to i w. reached id to (in_all (λ (x : CellId). length old.cells ≤ x.0) id (lefts ++ rights) i all_beyond) w;
      left_row = λ read r.
          let both = left_same sig left right pairs old mid put lefts rights p read (subst (λ k. IsReading k read) before_is_put r) p.joinable.left_sorts p.joinable.left_sorted in
          (both.1, both.0);
      right_row = λ read r.
          let both = right_same sig left right pairs old mid put lefts rights p read (subst (λ k. IsReading k read) before_is_put r) p.joinable.right_sorts p.joinable.right_sorted in
          (both.1, both.0);
      apart = λ read r. rows_apart sig left right pairs old mid put lefts rights p read (subst (λ k. IsReading k read) before_is_put r);
      joined = λ read r values. (to_agreeing read r values, from_agreeing read r values);
      sorted = λ read r. read_sorted read r;
    })
