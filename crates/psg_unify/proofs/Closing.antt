-- Solving equations of cells.
use Rattle.std.proofs.Common.{◌≡◌, ◌≢◌, ◌⊎◌, ◌↔◌, ◌==◌, inl, inr, ℕ, zero, suc, ◌<◌, ◌+◌, ◌-◌, Option, Some, None, List, [], ◌∷◌, ◌++◌, map, length, slice_get, All, refl, ap, ap₂, sym, ◌∙◌, arith}
use Rattle.std.proofs.lemmas.List.Elements.{All-weaker, All-cons, All-head, All-tail, All-append}
use Rattle.psg_terms.specs.Terms.{Term, symbol, applied}
use Rattle.psg_terms.specs.Sizes.{size, sizes}
use Rattle.psg_terms.specs.Instances.{substitute}
use Rattle.psg_terms.specs.Relations.{IsIn, first, later}
use Rattle.psg_terms.proofs.Applied.{applied-substitute}
use Rattle.psg_terms.proofs.Nodes.{size-con, same_constructor, same_arguments}
use Rattle.psg_pool.specs.declared.cells.CellId.{CellId}
use Rattle.psg_pool.specs.declared.cells.Binding.{Binding}
use Rattle.psg_pool.specs.Cells.{Put, free, constructor, IsAmong, arguments_of, arguments_in}
use Rattle.psg_pool.specs.Bindings.{Kept, target_of, IsSound}
use Rattle.std.proofs.lemmas.Bool.{eqb-true, cases_Bool}
use Rattle.psg_pool.proofs.Places.{some_or_none, slice_get_none}
use Rattle.psg_pool.proofs.Links.{target_of_here, target_of_there}
use Rattle.psg_pool.proofs.Following.{target_of-append, target_of-append_none}
use Rattle.psg_unify.specs.Reading.{Reading, IsReading}
use Rattle.psg_unify.specs.Fitting.{Falls}
use Rattle.psg_unify.specs.Valuations.{IsValuation, Solves, Equation, Equals, HoldsBelow, EqualsBelow, AreLinked, itself, onward, back, IsGuarded, IsState, by_cells}
use Rattle.psg_unify.specs.Meeting.{pairs_of}
use Rattle.psg_unify.proofs.Laws.{over_at, All-both}

-- a substitution that is read through a row is the row's values
pub map-twice : (v read : Reading) (f : Term → Term) (xs : List CellId) → All (λ x. v x ≡ f (read x)) xs → map v xs ≡ map f (map read xs)
map-twice v read f [] h = refl
map-twice v read f (x ∷ xs) h = ap₂ (λ y ys. y ∷ ys) (All-head (λ x. v x ≡ f (read x)) x xs h) (map-twice v read f xs (All-tail (λ x. v x ≡ f (read x)) x xs h))

-- what reads a pool is its most general solution
module _ (kept : Kept) (sound : IsSound kept) (height : CellId → ℕ) (falls : Falls kept height) (read v : Reading)
    (r : IsReading kept read) (val : IsValuation kept.cells v) (sol : Solves kept.bindings v) where
  at_put : (id : CellId) → IsAmong kept.cells id → target_of kept.bindings id ≡ None → (o : Option Put) → slice_get kept.cells id.0 ≡ o
      → All (λ x. v x ≡ substitute (by_cells v) (read x)) (arguments_in o) → v id ≡ substitute (by_cells v) (read id)
  at_put id i t None e h = absurd (omega (arith, i, slice_get_none kept.cells id.0 e))
  at_put id i t (Some (free s)) e h =
      let same : id.0 ≡ (id.0 + 1) - 1 = omega arith in
      ap (λ n. v (record { 0 = n })) same ∙ sym (ap (substitute (by_cells v)) (r.open_cell id s e t))
  at_put id i t (Some (constructor c args)) e h =
      val id c args e ∙ ap (applied (symbol c)) (map-twice v read (substitute (by_cells v)) args h)
      ∙ sym (applied-substitute (by_cells v) (symbol c) (map read args)) ∙ sym (ap (substitute (by_cells v)) (r.con_cell id c args e))

  pub general : (n : ℕ) (id : CellId) → height id < n → IsAmong kept.cells id → v id ≡ substitute (by_cells v) (read id)
  general zero id a i = absurd (omega (arith, a))
  general (suc n) id a i = elim (some_or_none (target_of kept.bindings id)) [
    | inr s ↦
        let l = falls.bound id s.0 s.1 in
        sol id s.0 s.1 ∙ general n s.0 (omega (arith, l, a)) (over_at kept.cells kept.bindings id s.0 sound.over s.1).1 ∙ sym (ap (substitute (by_cells v)) (r.bound_cell id s.0 s.1))
    | inl t ↦ at_put id i t (slice_get kept.cells id.0) refl
        (All-both (λ x. height x < height id) (λ x. x.0 < id.0) (λ x. v x ≡ substitute (by_cells v) (read x))
        (λ x l m. general n x (omega (arith, l, a)) (omega (arith, m, i))) (arguments_of kept.cells id) (falls.con id) (sound.arguments id))
  ]

-- guarded equations hold once nothing is left
pub closed : (v : Reading) (apart : List Equation) → IsGuarded v apart [] → (n : ℕ) → EqualsBelow n v apart
closed v apart g zero = All-weaker (λ (p : Equation). Unit {0}) (HoldsBelow 0 v) (λ p u l. elim l [ inl k ↦ absurd (omega (arith, k)) | inr k ↦ absurd (omega (arith, k)) ]) apart (λ k d l. tt)
closed v apart g (suc n) = g n (closed v apart g n) (λ k d l. absurd (omega (arith, l)))

pub all_closed : (v : Reading) (apart : List Equation) → IsGuarded v apart [] → Equals v apart
all_closed v apart g = at_each apart (λ n. closed v apart g n) where
  at_each : (xs : List Equation) → ((n : ℕ) → EqualsBelow n v xs) → Equals v xs
  at_each [] h = λ k d l. absurd (omega (arith, l))
  at_each (x ∷ xs) h =
      All-cons (λ (p : Equation). v p.0 ≡ v p.1) x xs
      (All-head (HoldsBelow (suc (size (v x.0))) v) x xs (h (suc (size (v x.0)))) (inl (omega arith)))
      (at_each xs (λ n. All-tail (HoldsBelow n v) x xs (h n)))

sides_equal : (v : Reading) (n : ℕ) (xs ys : List CellId) → length xs ≡ length ys → (sizes (map v xs) < n) ⊎ (sizes (map v ys) < n) → EqualsBelow n v (pairs_of xs ys) → map v xs ≡ map v ys
sides_equal v n [] [] e l h = refl
sides_equal v n [] (y ∷ ys) e l h = absurd (omega (arith, e))
sides_equal v n (x ∷ xs) [] e l h = absurd (omega (arith, e))
sides_equal v n (x ∷ xs) (y ∷ ys) e l h =
    ap₂ (λ t ts. t ∷ ts)
    (All-head (HoldsBelow n v) (x, y) (pairs_of xs ys) h (elim l [ inl k ↦ inl (omega (arith, k)) | inr k ↦ inr (omega (arith, k)) ]))
    (sides_equal v n xs ys (omega (arith, e)) (elim l [ inl k ↦ inl (omega (arith, k)) | inr k ↦ inr (omega (arith, k)) ]) (All-tail (HoldsBelow n v) (x, y) (pairs_of xs ys) h))

below_front : (v : Reading) (n : ℕ) (xs ys : List Equation) → EqualsBelow n v (xs ++ ys) → EqualsBelow n v xs × EqualsBelow n v ys
below_front v n [] ys h = (λ k d l. absurd (omega (arith, l)), h)
below_front v n (x ∷ xs) ys h =
    let rest = below_front v n xs ys (All-tail (HoldsBelow n v) x (xs ++ ys) h) in
    (All-cons (HoldsBelow n v) x xs (All-head (HoldsBelow n v) x (xs ++ ys) h) rest.0, rest.1)

-- taking an equation of two constructor cells apart
pub taken_apart : (cells : List Put) (v : Reading) (a b : CellId) (c : ℕ) (xs ys : List CellId) (apart left : List Equation) → IsValuation cells v
    → slice_get cells a.0 ≡ Some (constructor c xs) → slice_get cells b.0 ≡ Some (constructor c ys) → length xs ≡ length ys
    → IsGuarded v apart ((a, b) ∷ left) → IsGuarded v ((a, b) ∷ apart) (pairs_of xs ys ++ left)
taken_apart cells v a b c xs ys apart left val ea eb e g n ha hl =
    let P : Equation → Type 0 = HoldsBelow n v in
    let parts = below_front v n (pairs_of xs ys) left hl in
    All-cons (HoldsBelow (suc n) v) (a, b) apart
    (λ l. val a c xs ea ∙ ap (applied (symbol c)) (sides_equal v n xs ys e (elim l [
      | inl m ↦ (let k = size-con (v a) c (map v xs) (val a c xs ea) in inl (omega (arith, k, m)))
      | inr m ↦ (let k = size-con (v b) c (map v ys) (val b c ys eb) in inr (omega (arith, k, m)))
    ]) parts.0) ∙ sym (val b c ys eb))
    (g n (All-tail P (a, b) apart ha) (All-cons P (a, b) left (All-head P (a, b) apart ha) parts.1))

-- an argument is smaller than its constructor cell, so no valuation closes a circle through one
pub smaller : (cells : List Put) (v : Reading) (id : CellId) (c : ℕ) (args : List CellId) → IsValuation cells v → slice_get cells id.0 ≡ Some (constructor c args)
    → All (λ x. size (v x) < size (v id)) args
smaller cells v id c args val e =
    let k = size-con (v id) c (map v args) (val id c args e) in
    below args (omega (arith, k)) where
      below : (xs : List CellId) → sizes (map v xs) < size (v id) → All (λ x. size (v x) < size (v id)) xs
      below [] l = λ k d m. absurd (omega (arith, m))
      below (x ∷ xs) l = All-cons (λ x. size (v x) < size (v id)) x xs (omega (arith, l)) (below xs (omega (arith, l)))

-- what reads a pool is a valuation that solves it
pub reading_solves : (kept : Kept) (read : Reading) → IsReading kept read → IsValuation kept.cells read × Solves kept.bindings read
reading_solves kept read r = (r.con_cell, r.bound_cell)

-- the state in which nothing is left says what is asked
pub state_end : (cells : List Put) (old : List Binding) (asked : List Equation) (bindings : List Binding) (apart : List Equation) → IsState cells old asked bindings apart []
    → (v : Reading) → IsValuation cells v → Solves bindings v → Equals v asked
state_end cells old asked bindings apart st v val sol = st.back v val sol (all_closed v apart (st.guarded v val sol)) (λ k d l. absurd (omega (arith, l)))

-- an equation in place of an equal one
pub state_ends : (cells : List Put) (old : List Binding) (asked : List Equation) (bs : List Binding) (apart left : List Equation) (a b x y : CellId)
    → ((v : Reading) → IsValuation cells v → Solves bs v → v a ≡ v x) → ((v : Reading) → IsValuation cells v → Solves bs v → v b ≡ v y)
    → IsState cells old asked bs apart ((a, b) ∷ left) → IsState cells old asked bs apart ((x, y) ∷ left)
state_ends cells old asked bs apart left a b x y ea eb st = record {
  to = λ v val past e.
      let o = st.to v val past e in (
        o.0,
        o.1,
        All-cons (λ (p : Equation). v p.0 ≡ v p.1) (x, y) left
            (sym (ea v val o.0) ∙ All-head (λ (p : Equation). v p.0 ≡ v p.1) (a, b) left o.2 ∙ eb v val o.0) (All-tail (λ (p : Equation). v p.0 ≡ v p.1) (a, b) left o.2),
      );
  back = λ v val sol ha hl. st.back v val sol ha
      (All-cons (λ (p : Equation). v p.0 ≡ v p.1) (a, b) left (ea v val sol ∙ All-head (λ (p : Equation). v p.0 ≡ v p.1) (x, y) left hl ∙ sym (eb v val sol))
      (All-tail (λ (p : Equation). v p.0 ≡ v p.1) (x, y) left hl));
  guarded = λ v val sol n ha hl. st.guarded v val sol n ha
      (All-cons (HoldsBelow n v) (a, b) left
      (λ l. ea v val sol ∙ All-head (HoldsBelow n v) (x, y) left hl (elim l [
        | inl m ↦ (let k = ap size (ea v val sol) in inl (omega (arith, k, m)))
        | inr m ↦ (let k = ap size (eb v val sol) in inr (omega (arith, k, m)))
      ]) ∙ sym (eb v val sol))
      (All-tail (HoldsBelow n v) (x, y) left hl));
}

-- two constructor cells of one constructor are taken apart
pub state_apart : (cells : List Put) (old : List Binding) (asked : List Equation) (bs : List Binding) (apart left : List Equation) (a b : CellId) (c : ℕ) (xs ys : List CellId)
    → slice_get cells a.0 ≡ Some (constructor c xs) → slice_get cells b.0 ≡ Some (constructor c ys) → length xs ≡ length ys
    → IsState cells old asked bs apart ((a, b) ∷ left) → IsState cells old asked bs ((a, b) ∷ apart) (pairs_of xs ys ++ left)
state_apart cells old asked bs apart left a b c xs ys ea eb e st = record {
  to = λ v val past h.
      let o = st.to v val past h in
      let ab : v a ≡ v b = All-head (λ (p : Equation). v p.0 ≡ v p.1) (a, b) left o.2 in
      let rows = same_arguments c c (map v xs) (map v ys) (sym (val a c xs ea) ∙ ab ∙ val b c ys eb) in (
        o.0,
        All-cons (λ (p : Equation). v p.0 ≡ v p.1) (a, b) apart ab o.1,
        All-append (λ (p : Equation). v p.0 ≡ v p.1) (pairs_of xs ys) left (sides_of v xs ys rows) (All-tail (λ (p : Equation). v p.0 ≡ v p.1) (a, b) left o.2),
      );
  back = λ v val sol ha hl. st.back v val sol (All-tail (λ (p : Equation). v p.0 ≡ v p.1) (a, b) apart ha)
      (All-cons (λ (p : Equation). v p.0 ≡ v p.1) (a, b) left (All-head (λ (p : Equation). v p.0 ≡ v p.1) (a, b) apart ha) (behind v (pairs_of xs ys) left hl));
  guarded = λ v val sol. taken_apart cells v a b c xs ys apart left val ea eb e (st.guarded v val sol);
} where
  sides_of : (v : Reading) (xs ys : List CellId) → map v xs ≡ map v ys → Equals v (pairs_of xs ys)
  sides_of v [] ys h = λ k d l. absurd (omega (arith, l))
  sides_of v (x ∷ xs) [] h = λ k d l. absurd (omega (arith, l))
  sides_of v (x ∷ xs) (y ∷ ys) h =
      let one : v x ≡ v y = cc in
      let rest : map v xs ≡ map v ys = cc in
      All-cons (λ (p : Equation). v p.0 ≡ v p.1) (x, y) (pairs_of xs ys) one (sides_of v xs ys rest)

  behind : (v : Reading) (xs ys : List Equation) → Equals v (xs ++ ys) → Equals v ys
  behind v [] ys h = h
  behind v (x ∷ xs) ys h = behind v xs ys (All-tail (λ (p : Equation). v p.0 ≡ v p.1) x (xs ++ ys) h)

-- a valuation that solves one binding more
pub solves_more : (bs : List Binding) (b : Binding) (v : Reading) → target_of bs b.bound ≡ None → Solves (bs ++ b ∷ []) v ↔ (Solves bs v × (v b.bound ≡ v b.target))
solves_more bs b v n = (
  λ s. (
    λ id to e. s id to (target_of-append bs (b ∷ []) id to e),
    s b.bound b.target (target_of-append_none bs (b ∷ []) b.bound n ∙ target_of_here b [] b.bound refl),
  ),
  λ p id to e. elim (some_or_none (target_of bs id)) [
    | inr s ↦ (let x : Some s.0 ≡ Some to = sym (target_of-append bs (b ∷ []) id s.0 s.1) ∙ e in let same : s.0 ≡ to = cc in p.0 id s.0 s.1 ∙ ap v same)
    | inl o ↦ elim (cases_Bool (b.bound.0 == id.0)) [
      | inl t ↦ (
          let here = target_of_here b [] id (eqb-true b.bound.0 id.0 t) in
          let x : Some b.target ≡ Some to = sym here ∙ sym (target_of-append_none bs (b ∷ []) id o) ∙ e in
          let same : b.target ≡ to = cc in
          ap (λ (k : ℕ). v (record { 0 = k })) (sym (eqb-true b.bound.0 id.0 t)) ∙ p.1 ∙ ap v same)
      | inr f ↦ (let x : None ≡ Some to = sym (target_of_there b [] id f) ∙ sym (target_of-append_none bs (b ∷ []) id o) ∙ e in cc)
    ]
  ],
)

-- a free cell is bound
pub state_bound : (cells : List Put) (old : List Binding) (asked : List Equation) (bs : List Binding) (apart left : List Equation) (b : Binding) → target_of bs b.bound ≡ None
    → IsState cells old asked bs apart ((b.bound, b.target) ∷ left) → IsState cells old asked (bs ++ b ∷ []) apart left
state_bound cells old asked bs apart left b n st = record {
  to = λ v val past h.
      let o = st.to v val past h in
      ((solves_more bs b v n).1 (o.0, All-head (λ (p : Equation). v p.0 ≡ v p.1) (b.bound, b.target) left o.2), o.1, All-tail (λ (p : Equation). v p.0 ≡ v p.1) (b.bound, b.target) left o.2);
  back = λ v val sol ha hl. let k = (solves_more bs b v n).0 sol in st.back v val k.0 ha (All-cons (λ (p : Equation). v p.0 ≡ v p.1) (b.bound, b.target) left k.1 hl);
  guarded = λ v val sol m ha hl.
      let k = (solves_more bs b v n).0 sol in
      st.guarded v val k.0 m ha (All-cons (HoldsBelow m v) (b.bound, b.target) left (λ l. k.1) hl);
}

-- a member of a list for which something holds
pub in_all : {X : Type 0} (P : X → Type 0) (x : X) (xs : List X) → IsIn x xs → All P xs → P x
in_all P x _ (first {xs}) h = All-head P x xs h
in_all P x _ (later {y} {xs} i) h = in_all P x xs i (All-tail P y xs h)

-- linked cells are equal, by size and at all
pub linked_below : (v : Reading) (n : ℕ) (apart : List Equation) (a b : CellId) → AreLinked apart a b → EqualsBelow n v apart → (size (v a) < n) ⊎ (size (v b) < n) → v a ≡ v b
linked_below v n apart a _ (itself _) h l = refl
linked_below v n apart a b (onward _ x _ i rest) h l = elim l [
  | inl m ↦ (let e : v a ≡ v x = in_all (HoldsBelow n v) (a, x) apart i h (inl m) in let k = ap size e in e ∙ linked_below v n apart x b rest h (inl (omega (arith, k, m))))
  | inr m ↦ (let e : v x ≡ v b = linked_below v n apart x b rest h (inr m) in let k = ap size e in in_all (HoldsBelow n v) (a, x) apart i h (inr (omega (arith, k, m))) ∙ e)
]
linked_below v n apart a b (back _ x _ i rest) h l = elim l [
  | inl m ↦ (let e : v x ≡ v a = in_all (HoldsBelow n v) (x, a) apart i h (inr m) in let k = ap size e in sym e ∙ linked_below v n apart x b rest h (inl (omega (arith, k, m))))
  | inr m ↦ (let e : v x ≡ v b = linked_below v n apart x b rest h (inr m) in let k = ap size e in sym (in_all (HoldsBelow n v) (x, a) apart i h (inl (omega (arith, k, m)))) ∙ e)
]

pub linked_equal : (v : Reading) (apart : List Equation) (a b : CellId) → AreLinked apart a b → Equals v apart → v a ≡ v b
linked_equal v apart a _ (itself _) h = refl
linked_equal v apart a b (onward _ x _ i rest) h = in_all (λ (p : Equation). v p.0 ≡ v p.1) (a, x) apart i h ∙ linked_equal v apart x b rest h
linked_equal v apart a b (back _ x _ i rest) h = sym (in_all (λ (p : Equation). v p.0 ≡ v p.1) (x, a) apart i h) ∙ linked_equal v apart x b rest h

-- an equation of linked cells is dropped
pub state_linked : (cells : List Put) (old : List Binding) (asked : List Equation) (bs : List Binding) (apart left : List Equation) (a b : CellId) → AreLinked apart a b
    → IsState cells old asked bs apart ((a, b) ∷ left) → IsState cells old asked bs apart left
state_linked cells old asked bs apart left a b k st = record {
  to = λ v val past h. let o = st.to v val past h in (o.0, o.1, All-tail (λ (p : Equation). v p.0 ≡ v p.1) (a, b) left o.2);
  back = λ v val sol ha hl. st.back v val sol ha (All-cons (λ (p : Equation). v p.0 ≡ v p.1) (a, b) left (linked_equal v apart a b k ha) hl);
  guarded = λ v val sol n ha hl. st.guarded v val sol n ha (All-cons (HoldsBelow n v) (a, b) left (λ l. linked_below v n apart a b k ha l) hl);
}

-- the first state
pub state_begin : (cells : List Put) (old : List Binding) (asked : List Equation) → IsState cells old asked old [] asked
state_begin cells old asked = record {
  to = λ v val past h. (past, λ k d l. absurd (omega (arith, l)), h);
  back = λ v val sol ha hl. hl;
  guarded = λ v val sol n ha hl. λ k d l. absurd (omega (arith, l));
}

-- cells of different constructors have no valuation
pub state_clash : (cells : List Put) (old : List Binding) (asked : List Equation) (bs : List Binding) (apart left : List Equation) (a b : CellId) (c d : ℕ) (xs ys : List CellId)
    → slice_get cells a.0 ≡ Some (constructor c xs) → slice_get cells b.0 ≡ Some (constructor d ys) → c ≢ d
    → IsState cells old asked bs apart ((a, b) ∷ left) → (v : Reading) → IsValuation cells v → Solves old v → Equals v asked → ⊥
state_clash cells old asked bs apart left a b c d xs ys ea eb ne st v val past h =
    let o = st.to v val past h in
    ne (same_constructor c d (map v xs) (map v ys) (sym (val a c xs ea) ∙ All-head (λ (p : Equation). v p.0 ≡ v p.1) (a, b) left o.2 ∙ val b d ys eb))
