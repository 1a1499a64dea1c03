-- Cells get higher as they are bound and joined.
use Rattle.std.proofs.Common.{◌≡◌, ◌≢◌, ◌⊎◌, inl, inr, ℕ, zero, suc, ◌<◌, ◌≤◌, ◌+◌, ◌-◌, ◌==◌, max, true, false, Option, Some, None, IfSome, IfNone, List, [], ◌∷◌, ◌++◌, slice_get, get_or, length, set, replicate, All, refl, ap, ap₂, sym, ◌∙◌, subst, arith}
use Rattle.std.proofs.lemmas.Bool.{eqb-true, eqb-false, cases_Bool}
use Rattle.std.proofs.lemmas.List.{length-set, get_or-set_same, get_or-set_other, length-replicate}
use Rattle.std.proofs.lemmas.Option.{slice_get-get_or}
use Rattle.std.proofs.lemmas.List.Elements.{All-cons, All-head, All-tail, All-append}
use Rattle.psg_pool.specs.declared.cells.CellId.{CellId}
use Rattle.psg_pool.specs.Cells.{IsAmong, arguments_of}
use Rattle.psg_pool.specs.Bindings.{Kept, target_of}
use Rattle.psg_pool.proofs.Places.{some_or_none, slice_get-set_other, slice_get-set_same}
use Rattle.psg_pool.proofs.Links.{target_of_here, target_of_there}
use Rattle.psg_pool.proofs.Following.{target_of-append, target_of-append_none}
use Rattle.psg_unify.specs.declared.classes.Classes.{Classes}
use Rattle.psg_unify.specs.Valuations.{Equation}
use Rattle.psg_unify.specs.Joined.{IsNext, IsStep}
use Rattle.psg_unify.specs.Meeting.{pairs_of}
use Rattle.psg_unify.specs.Counting.{count_below}
use Rattle.psg_unify.specs.Climbing.{is_none_of, is_end, ends, height_at, IsClimbing, IsEnd, AreFrom, IsGoing, IsCloser}
use Rattle.psg_unify.proofs.Counts.{count_most, count_less, count_some}

-- the cell at a place
at_place : (base : ℕ) (id : CellId) → base ≤ id.0 → ◌≡◌ {A = CellId} (record { 0 = base + (id.0 - base) }) id
at_place base id l = let e : base + (id.0 - base) ≡ id.0 = omega (arith, l) in ap (λ (n : ℕ). record { 0 = n }) e

is_none_is : (t : Option CellId) (o : Option (Option CellId)) → t ≡ None → ((to : CellId) → o ≡ Some (Some to) → ⊥) → is_none_of t o ≡ true
is_none_is (Some to) o e h = cc
is_none_is None None e h = refl
is_none_is None (Some None) e h = refl
is_none_is None (Some (Some to)) e h = absurd (h to refl)

bound_is : (t : Option CellId) (o : Option (Option CellId)) (to : CellId) → t ≡ Some to → is_none_of t o ≡ false
bound_is t o to e = ap (λ x. is_none_of x o) e

joined_is : (t : Option CellId) (o : Option (Option CellId)) (to : CellId) → o ≡ Some (Some to) → is_none_of t o ≡ false
joined_is (Some x) o to e = refl
joined_is None o to e = ap (is_none_of None) e

-- an end is an end at its place
pub end_here : (kept : Kept) (c : Classes) (id : CellId) → IsEnd kept c id → is_end kept c (id.0 - c.base) ≡ true
end_here kept c id e =
    is_none_is (target_of kept.bindings (record { 0 = c.base + (id.0 - c.base) })) (slice_get c.next.items (id.0 - c.base))
    (ap (target_of kept.bindings) (at_place c.base id e.from) ∙ e.unbound)
    (λ to g. e.last to (id.0 - c.base, (let l = e.from in omega (arith, l)), g))

end_place : (kept : Kept) (c : Classes) (id : CellId) → IsClimbing kept c → IsEnd kept c id → id.0 - c.base < length c.next.items
end_place kept c id k e = (let l = e.from in let t = e.there in let n = k.count in omega (arith, l, t, n))

-- the cell may be raised
pub has_room : (kept : Kept) (c : Classes) (id : CellId) → IsClimbing kept c → IsEnd kept c id → height_at c id < length c.heights.items
has_room kept c id k e =
    let one = count_some (length c.next.items) (is_end kept c) (id.0 - c.base) (end_place kept c id k e) (end_here kept c id e) in
    let b = k.bounded id in
    let h = k.heights in
    omega (arith, one, b, h)

pub end_within : (kept : Kept) (c : Classes) (id : CellId) → IsClimbing kept c → IsEnd kept c id → id.0 < c.base + length c.heights.items
end_within kept c id k e = (let t = e.there in let n = k.count in let h = k.heights in omega (arith, t, n, h))

pub end_within_next : (kept : Kept) (c : Classes) (id : CellId) → IsClimbing kept c → IsEnd kept c id → id.0 < c.base + length c.next.items
end_within_next kept c id k e = (let t = e.there in let n = k.count in omega (arith, t, n))

-- no step leads on from an end
end_stays : (kept : Kept) (c : Classes) (id to : CellId) → IsEnd kept c id → IsStep kept c id to → ⊥
end_stays kept c id to e s = elim s [
  | inl t ↦ (let n : None ≡ Some to = sym e.unbound ∙ t in cc)
  | inr n ↦ e.last to n
]

-- one end leads to another one now, which was raised
pub record IsUnited (old new : Kept) (c d : Classes) (x y : CellId) : Type 0 where
  pub base : d.base ≡ c.base
  pub cells : new.cells ≡ old.cells
  pub count : length d.next.items ≡ length c.next.items
  pub heights : d.heights.items ≡ set c.heights.items (y.0 - c.base) (max (height_at c y) (height_at c x + 1))
  pub steps : (id to : CellId) → IsStep new d id to → IsStep old c id to ⊎ ((id ≡ x) × (to ≡ y))
  pub ended : (k : ℕ) → k < length c.next.items → is_end new d k ≡ true → is_end old c k ≡ true
  pub gone : is_end new d (x.0 - c.base) ≡ false

module _ (old new : Kept) (c d : Classes) (x y : CellId) (k : IsClimbing old c) (ex : IsEnd old c x) (ey : IsEnd old c y) (other : x.0 ≢ y.0) (u : IsUnited old new c d x y) where
  pub fewer_ends : ends new d < ends old c
  fewer_ends =
      let less = count_less (length c.next.items) (is_end old c) (is_end new d) u.ended (x.0 - c.base) (end_place old c x k ex) (end_here old c x ex) u.gone in
      let e : ends new d ≡ count_below (length c.next.items) (is_end new d) = ap (λ n. count_below n (is_end new d)) u.count in
      omega (arith, less, e)

  height_by : (id : CellId) → height_at d id ≡ get_or (set c.heights.items (y.0 - c.base) (max (height_at c y) (height_at c x + 1))) (id.0 - c.base) 0
  height_by id = ap₂ (λ (xs : List ℕ) (n : ℕ). get_or xs n 0) u.heights (ap (λ (b : ℕ). id.0 - b) u.base)

  place_y : y.0 - c.base < length c.heights.items
  place_y = (let l = end_place old c y k ey in let h = k.heights in omega (arith, l, h))

  height_same : (id : CellId) → id.0 - c.base ≢ y.0 - c.base → height_at d id ≡ height_at c id
  height_same id n = height_by id ∙ get_or-set_other c.heights.items (y.0 - c.base) (id.0 - c.base) (max (height_at c y) (height_at c x + 1)) 0 n

  height_raised : (id : CellId) → id.0 - c.base ≡ y.0 - c.base → height_at d id ≡ max (height_at c y) (height_at c x + 1)
  height_raised id e =
      height_by id ∙ ap (λ (n : ℕ). get_or (set c.heights.items (y.0 - c.base) (max (height_at c y) (height_at c x + 1))) n 0) e
      ∙ get_or-set_same c.heights.items (y.0 - c.base) (max (height_at c y) (height_at c x + 1)) 0 place_y

  -- no cell gets lower
  no_lower : (id : CellId) → height_at c id ≤ height_at d id
  no_lower id = elim (cases_Bool ((id.0 - c.base) == (y.0 - c.base))) [
    | inl t ↦ (
        let e = eqb-true (id.0 - c.base) (y.0 - c.base) t in
        let h = height_raised id e in
        let same : height_at c id ≡ height_at c y = ap (λ (n : ℕ). get_or c.heights.items n 0) e in
        omega (arith, h, same))
    | inr f ↦ (let h = height_same id (eqb-false (id.0 - c.base) (y.0 - c.base) f) in omega (arith, h))
  ]

  pub climbs_on : IsClimbing new d
  climbs_on = record {
    count = (let a = u.base in let b = u.count in let e = ap length u.cells in let n = k.count in omega (arith, a, b, e, n));
    heights = (let a = ap length u.heights in let b = length-set c.heights.items (y.0 - c.base) (max (height_at c y) (height_at c x + 1)) in let n = u.count in let h = k.heights in omega (arith, a, b, n, h));
    climbs = λ id to l s. (let from : c.base ≤ id.0 = (let b = u.base in omega (arith, l, b)) in elim (u.steps id to s) [
      | inl was ↦ (
          let up = k.climbs id to from was in
          let same = height_same id (λ e. end_stays old c id to (subst (IsEnd old c) (same_place id from e) ey) was) in
          let more = no_lower to in
          ((let a = up.0 in let b = u.base in omega (arith, a, b)), (let a = up.1 in omega (arith, a, same, more))))
      | inr now ↦ (
          let ex_id = ap (λ (z : CellId). z.0) now.0 in
          let ey_to = ap (λ (z : CellId). z.0) now.1 in
          let fx = ex.from in
          let fy = ey.from in
          let b = u.base in
          let same = height_same id (λ e. other (omega (arith, e, ex_id, fx, fy))) in
          let was : height_at c id ≡ height_at c x = ap (height_at c) now.0 in
          let raised = height_raised to (ap (λ (n : ℕ). n - c.base) ey_to) in
          (omega (arith, ey_to, fy, b), omega (arith, same, was, raised)))
    ]);
    bounded = λ id. (
        let less = fewer_ends in
        let n = u.count in
        elim (cases_Bool ((id.0 - c.base) == (y.0 - c.base))) [
          | inl t ↦ (
              let raised = height_raised id (eqb-true (id.0 - c.base) (y.0 - c.base) t) in
              let bx = k.bounded x in
              let by = k.bounded y in
              omega (arith, less, n, raised, bx, by))
          | inr f ↦ (
              let same = height_same id (eqb-false (id.0 - c.base) (y.0 - c.base) f) in
              let b = k.bounded id in
              omega (arith, less, n, same, b))
        ]);
  } where
    same_place : (id : CellId) → c.base ≤ id.0 → id.0 - c.base ≡ y.0 - c.base → y ≡ id
    same_place id l e = (let fy = ey.from in let n : y.0 ≡ id.0 = omega (arith, l, e, fy) in ap (λ (m : ℕ). record { 0 = m }) n)

  pub closer : (left more : List Equation) → IsGoing old c left → All (AreFrom c.base) more → IsCloser old new c d more
  closer left more g h = record {
    going = record {
      climbing = climbs_on;
      closed = λ id l. subst (λ (b : ℕ). All (λ (a : CellId). b ≤ a.0) (arguments_of new.cells id)) (sym u.base)
          (subst (λ cells. All (λ (a : CellId). c.base ≤ a.0) (arguments_of cells id)) (sym u.cells) (g.closed id (let b = u.base in omega (arith, l, b))));
      left_from = subst (λ (b : ℕ). All (AreFrom b) more) (sym u.base) h;
    };
    fewer = fewer_ends;
  }

-- a free cell was bound, and its target raised
pub united_bound : (old new : Kept) (c d : Classes) (x y : CellId) → d.base ≡ c.base → d.next ≡ c.next → d.heights.items ≡ set c.heights.items (y.0 - c.base) (max (height_at c y) (height_at c x + 1))
    → new.cells ≡ old.cells → new.bindings ≡ old.bindings ++ record { bound = x; target = y } ∷ [] → IsEnd old c x → IsUnited old new c d x y
united_bound old new c d x y b n h e w ex = record {
  base = b;
  cells = e;
  count = ap (λ v. length v.items) n;
  heights = h;
  steps = λ id to s. elim s [
    | inl t ↦ elim (some_or_none (target_of old.bindings id)) [
      | inl none ↦ (
          let own : target_of (record { bound = x; target = y } ∷ []) id ≡ Some to = sym (target_of-append_none old.bindings (record { bound = x; target = y } ∷ []) id none) ∙ ap (λ l. target_of l id) (sym w) ∙ t in
          elim (cases_Bool (x.0 == id.0)) [
            | inl same ↦ (
                let is : Some y ≡ Some to = sym (target_of_here (record { bound = x; target = y }) [] id (eqb-true x.0 id.0 same)) ∙ own in
                inr (ap (λ (m : ℕ). record { 0 = m }) (sym (eqb-true x.0 id.0 same)), (cc)))
            | inr f ↦ absurd (let is : None ≡ Some to = sym (target_of_there (record { bound = x; target = y }) [] id f) ∙ own in cc)
          ])
      | inr o ↦ (
          let is : Some o.0 ≡ Some to = sym (target_of-append old.bindings (record { bound = x; target = y } ∷ []) id o.0 o.1) ∙ ap (λ l. target_of l id) (sym w) ∙ t in
          inl (inl (o.1 ∙ is)))
    ]
    | inr (k, i, g) ↦ inl (inr (k, i ∙ ap (λ (m : ℕ). m + k) b, ap (λ v. slice_get v.items k) (sym n) ∙ g))
  ];
  ended = λ k l t.
      let same : ◌≡◌ {A = CellId} (record { 0 = d.base + k }) (record { 0 = c.base + k }) = ap (λ (m : ℕ). record { 0 = m + k }) b in
      elim (some_or_none (target_of old.bindings (record { 0 = c.base + k }))) [
        | inl none ↦ elim (some_or_none (target_of new.bindings (record { 0 = d.base + k }))) [
          | inl still ↦ ap (λ o. is_none_of o (slice_get c.next.items k)) (none ∙ sym still) ∙ ap (λ v. is_none_of (target_of new.bindings (record { 0 = d.base + k })) (slice_get v.items k)) (sym n) ∙ t
          | inr o ↦ absurd (let f = bound_is (target_of new.bindings (record { 0 = d.base + k })) (slice_get d.next.items k) o.0 o.1 in let x : true ≡ false = sym t ∙ f in cc)
        ]
        | inr o ↦ absurd (
            let on : target_of new.bindings (record { 0 = d.base + k }) ≡ Some o.0 =
            ap (target_of new.bindings) same ∙ ap (λ l. target_of l (record { 0 = c.base + k })) w ∙ target_of-append old.bindings (record { bound = x; target = y } ∷ []) (record { 0 = c.base + k }) o.0 o.1 in
            let f = bound_is (target_of new.bindings (record { 0 = d.base + k })) (slice_get d.next.items k) o.0 on in
            let x : true ≡ false = sym t ∙ f in cc)
      ];
  gone =
      let at : ◌≡◌ {A = CellId} (record { 0 = d.base + (x.0 - c.base) }) x = ap (λ (m : ℕ). record { 0 = m + (x.0 - c.base) }) b ∙ at_place c.base x ex.from in
      bound_is (target_of new.bindings (record { 0 = d.base + (x.0 - c.base) })) (slice_get d.next.items (x.0 - c.base)) y
      (ap (target_of new.bindings) at ∙ ap (λ l. target_of l x) w ∙ target_of-append_none old.bindings (record { bound = x; target = y } ∷ []) x ex.unbound
      ∙ target_of_here (record { bound = x; target = y }) [] x refl);
}

-- a class leads to where it led before, or where a cell was joined
pub next_joined : (c d : Classes) (x y : CellId) → c.base ≤ x.0 → d.base ≡ c.base → d.next.items ≡ set c.next.items (x.0 - c.base) (Some y) → (id next : CellId) → IsNext d id next → IsNext c id next ⊎ ((id ≡ x) × (next ≡ y))
next_joined c d x y l b n id next (k, i, g) = elim (cases_Bool (k == (x.0 - c.base))) [
  | inl t ↦ (
      let at = eqb-true k (x.0 - c.base) t in
      let place : id.0 ≡ x.0 = omega (arith, i, at, b, l) in
      let own : slice_get (set c.next.items (x.0 - c.base) (Some y)) (x.0 - c.base) ≡ Some (Some next) = sym (ap₂ (λ (xs : List (Option CellId)) (m : ℕ). slice_get xs m) n at) ∙ g in
      inr (ap (λ (m : ℕ). record { 0 = m }) place, set_there c.next.items (x.0 - c.base) own))
  | inr f ↦ inl (k, i ∙ ap (λ (m : ℕ). m + k) b, sym (ap (λ (xs : List (Option CellId)). slice_get xs k) n ∙ slice_get-set_other c.next.items k (x.0 - c.base) (Some y) (eqb-false k (x.0 - c.base) f)) ∙ g)
] where
  set_there : (xs : List (Option CellId)) (m : ℕ) → slice_get (set xs m (Some y)) m ≡ Some (Some next) → next ≡ y
  set_there [] m e = (let none : None ≡ Some (Some next) = e in cc)
  set_there (z ∷ xs) zero e = cc
  set_there (z ∷ xs) (suc m) e = set_there xs m e

-- a cell was joined to another one, and this one raised
pub united_joined : (kept : Kept) (c d : Classes) (x y : CellId) → d.base ≡ c.base → d.next.items ≡ set c.next.items (x.0 - c.base) (Some y) → d.heights.items ≡ set c.heights.items (y.0 - c.base) (max (height_at c y) (height_at c x + 1))
    → IsClimbing kept c → IsEnd kept c x → IsUnited kept kept c d x y
united_joined kept c d x y b n h climbing ex = record {
  base = b;
  cells = refl;
  count = ap length n ∙ length-set c.next.items (x.0 - c.base) (Some y);
  heights = h;
  steps = λ id to s. elim s [
    | inl t ↦ inl (inl t)
    | inr m ↦ (elim (next_joined c d x y ex.from b n id to m) [ inl k ↦ inl (inr k) | inr k ↦ inr k ])
  ];
  ended = λ k l t.
      let same : ◌≡◌ {A = CellId} (record { 0 = d.base + k }) (record { 0 = c.base + k }) = ap (λ (m : ℕ). record { 0 = m + k }) b in
      elim (cases_Bool (k == (x.0 - c.base))) [
        | inl e ↦ absurd (
            let f = joined_is (target_of kept.bindings (record { 0 = d.base + k })) (slice_get d.next.items k) y
            (ap₂ (λ (xs : List (Option CellId)) (m : ℕ). slice_get xs m) n (eqb-true k (x.0 - c.base) e) ∙ here) in
            let z : true ≡ false = sym t ∙ f in cc)
        | inr f ↦
            ap₂ is_none_of (ap (target_of kept.bindings) (sym same))
            (sym (ap (λ (xs : List (Option CellId)). slice_get xs k) n ∙ slice_get-set_other c.next.items k (x.0 - c.base) (Some y) (eqb-false k (x.0 - c.base) f))) ∙ t
      ];
  gone = joined_is (target_of kept.bindings (record { 0 = d.base + (x.0 - c.base) })) (slice_get d.next.items (x.0 - c.base)) y
      (ap (λ (xs : List (Option CellId)). slice_get xs (x.0 - c.base)) n ∙ here);
} where
  here : slice_get (set c.next.items (x.0 - c.base) (Some y)) (x.0 - c.base) ≡ Some (Some y)
  here = slice_get-set_same c.next.items (x.0 - c.base) (Some y) (get_or c.next.items (x.0 - c.base) None) (slice_get-get_or c.next.items (x.0 - c.base) None (end_place kept c x climbing ex))

-- arguments side by side
pub sides_from : (base : ℕ) (xs ys : List CellId) → All (λ (a : CellId). base ≤ a.0) xs → All (λ (a : CellId). base ≤ a.0) ys → All (AreFrom base) (pairs_of xs ys)
sides_from base [] ys h k = λ i d l. absurd (omega (arith, l))
sides_from base (x ∷ xs) [] h k = λ i d l. absurd (omega (arith, l))
sides_from base (x ∷ xs) (y ∷ ys) h k =
    All-cons (AreFrom base) (x, y) (pairs_of xs ys) (All-head (λ (a : CellId). base ≤ a.0) x xs h, All-head (λ (a : CellId). base ≤ a.0) y ys k)
    (sides_from base xs ys (All-tail (λ (a : CellId). base ≤ a.0) x xs h) (All-tail (λ (a : CellId). base ≤ a.0) y ys k))

-- what is read at a place of the classes
read_at : (c : Classes) (id : CellId) (xs : List (Option CellId)) → xs ≡ c.next.items → c.base ≤ id.0 → id.0 < c.base + length c.next.items → slice_get c.next.items (id.0 - c.base) ≡ Some (get_or xs (id.0 - c.base) None)
read_at c id xs e l w =
    slice_get-get_or c.next.items (id.0 - c.base) None (omega (arith, l, w)) ∙ ap (λ (ys : List (Option CellId)). Some (get_or ys (id.0 - c.base) None)) (sym e)

pub next_some : (c : Classes) (id : CellId) (xs : List (Option CellId)) → xs ≡ c.next.items → c.base ≤ id.0 → id.0 < c.base + length c.next.items → IfSome (get_or xs (id.0 - c.base) None) (λ to. IsNext c id to)
next_some c id xs e l w = elim (some_or_none (get_or xs (id.0 - c.base) None)) [
  | inl n ↦ subst (λ o. IfSome o (λ to. IsNext c id to)) (sym n) tt
  | inr s ↦ subst (λ o. IfSome o (λ to. IsNext c id to)) (sym s.1)
      (id.0 - c.base, omega (arith, l), read_at c id xs e l w ∙ ap (λ o. Some o) s.1)
]

pub next_none : (c : Classes) (id : CellId) (xs : List (Option CellId)) → xs ≡ c.next.items → c.base ≤ id.0 → id.0 < c.base + length c.next.items → IfNone (get_or xs (id.0 - c.base) None) ((to : CellId) → IsNext c id to → ⊥)
next_none c id xs e l w = elim (some_or_none (get_or xs (id.0 - c.base) None)) [
  | inl n ↦ subst (λ o. IfNone o ((to : CellId) → IsNext c id to → ⊥)) (sym n) (λ to (k, i, g). (
      let place : k ≡ id.0 - c.base = omega (arith, i) in
      let is : Some (Some to) ≡ Some None = sym g ∙ ap (slice_get c.next.items) place ∙ read_at c id xs e l w ∙ ap (λ o. Some o) n in cc))
  | inr s ↦ subst (λ o. IfNone o ((to : CellId) → IsNext c id to → ⊥)) (sym s.1) tt
]

-- a cell from which neither a binding nor a class leads on is an end
pub end_by : (kept : Kept) (c : Classes) (id : CellId) (o : Option CellId) → c.base ≤ id.0 → IsAmong kept.cells id → target_of kept.bindings id ≡ None → IfNone o ((to : CellId) → IsNext c id to → ⊥) → IfNone o (IsEnd kept c id)
end_by kept c id None l t u h = record { from = l; there = t; unbound = u; last = h }
end_by kept c id (Some to) l t u h = tt

-- other equations are left
pub going_with : (kept : Kept) (c : Classes) (left more : List Equation) → All (AreFrom c.base) more → IsGoing kept c left → IsGoing kept c more
going_with kept c left more h g = record { climbing = g.climbing; closed = g.closed; left_from = h }

pub going_rest : (kept : Kept) (c : Classes) (p : Equation) (left : List Equation) → IsGoing kept c (p ∷ left) → IsGoing kept c left
going_rest kept c p left g = going_with kept c (p ∷ left) left (All-tail (AreFrom c.base) p left g.left_from) g

pub going_ends : (kept : Kept) (c : Classes) (p : Equation) (x y : CellId) (left : List Equation) → IsEnd kept c x → IsEnd kept c y → IsGoing kept c (p ∷ left) → IsGoing kept c ((x, y) ∷ left)
going_ends kept c p x y left ex ey g = going_with kept c (p ∷ left) ((x, y) ∷ left) (All-cons (AreFrom c.base) (x, y) left (ex.from, ey.from) (All-tail (AreFrom c.base) p left g.left_from)) g

-- no cell was joined yet
pub no_next : (c : Classes) (n : ℕ) → c.next.items ≡ replicate n None → (id to : CellId) → IsNext c id to → ⊥
no_next c n e id to (k, i, g) = never n k (ap (λ (xs : List (Option CellId)). slice_get xs k) (sym e) ∙ g) where
  never : (m k : ℕ) → slice_get (replicate m None) k ≡ Some (Some to) → ⊥
  never zero k f = cc
  never (suc m) zero f = cc
  never (suc m) (suc k) f = never m k f

-- nothing was bound or joined yet
pub climbing_begins : (kept : Kept) (c : Classes) (n : ℕ) → c.next.items ≡ replicate n None → c.heights.items ≡ replicate n 0 → c.base + n ≡ length kept.cells → ((id : CellId) → c.base ≤ id.0 → target_of kept.bindings id ≡ None) → IsClimbing kept c
climbing_begins kept c n e h count none = record {
  count = (let l = ap length e in let m = length-replicate {A = Option CellId} n None in omega (arith, l, m, count));
  heights = ap length h ∙ length-replicate n 0 ∙ sym (length-replicate {A = Option CellId} n None) ∙ sym (ap length e);
  climbs = λ id to l s. absurd (elim s [
    | inl t ↦ (let x : None ≡ Some to = sym (none id l) ∙ t in cc)
    | inr m ↦ no_next c n e id to m
  ]);
  bounded = λ id. (
      let most = count_most (length c.next.items) (is_end kept c) in
      let zero : ◌≡◌ {A = ℕ} (height_at c id) 0 = ap (λ (xs : List ℕ). get_or xs (id.0 - c.base) 0) h ∙ low n (id.0 - c.base) in
      omega (arith, most, zero));
} where
  low : (m k : ℕ) → ◌≡◌ {A = ℕ} (get_or (replicate m 0) k 0) 0
  low zero k = refl
  low (suc m) zero = refl
  low (suc m) (suc k) = low m k

-- the equation on top the other way round
pub going_swap : (kept : Kept) (c : Classes) (x y : CellId) (left : List Equation) → IsGoing kept c ((x, y) ∷ left) → IsGoing kept c ((y, x) ∷ left)
going_swap kept c x y left g =
    let h = All-head (AreFrom c.base) (x, y) left g.left_from in
    going_with kept c ((x, y) ∷ left) ((y, x) ∷ left) (All-cons (AreFrom c.base) (y, x) left (h.1, h.0) (All-tail (AreFrom c.base) (x, y) left g.left_from)) g

pub going_first : (kept : Kept) (c : Classes) (p : Equation) (left : List Equation) → IsGoing kept c (p ∷ left) → c.base ≤ p.0.0
going_first kept c p left g = (All-head (AreFrom c.base) p left g.left_from).0

pub going_second : (kept : Kept) (c : Classes) (p : Equation) (left : List Equation) → IsGoing kept c (p ∷ left) → c.base ≤ p.1.0
going_second kept c p left g = (All-head (AreFrom c.base) p left g.left_from).1

-- the arguments of both cells are left in place of the cells
pub apart_from : (kept : Kept) (c : Classes) (x y : CellId) (left more : List Equation) → c.base ≤ x.0 → c.base ≤ y.0 → more ≡ pairs_of (arguments_of kept.cells x) (arguments_of kept.cells y) ++ left
    → IsGoing kept c ((x, y) ∷ left) → All (AreFrom c.base) more
apart_from kept c x y left more lx ly e g =
    subst (All (AreFrom c.base)) (sym e) (All-append (AreFrom c.base) (pairs_of (arguments_of kept.cells x) (arguments_of kept.cells y)) left
    (sides_from c.base (arguments_of kept.cells x) (arguments_of kept.cells y) (g.closed x lx) (g.closed y ly)) (All-tail (AreFrom c.base) (x, y) left g.left_from))
