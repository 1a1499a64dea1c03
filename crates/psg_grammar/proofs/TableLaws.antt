-- Tables of spaces: what a write changes, and how much they can hold.
use Rattle.std.proofs.Common.{◌≡◌, ◌≢◌, ◌⊎◌, inl, inr, ℕ, zero, suc, ◌+◌, ◌*◌, ◌<◌, ◌≤◌, Bool, true, false, List, [], ◌∷◌, ◌++◌, length, get_or, set, insert, Contains, Vec, vec_len, refl, sym, ap, ◌∙◌, subst, true≢false, arith, not-suc-le-zero}
use Rattle.std.specs.declared.alloc.Global.{Global}
use Rattle.std.specs.List.Sorted.{IsStrictlyIncreasing}
use Rattle.std.proofs.lemmas.Bool.{cases_eq}
use Rattle.std.proofs.lemmas.List.{get_or_default, length-set}
use Rattle.std.proofs.lemmas.List.Elements.{Contains-get_or}
use Rattle.std.proofs.lemmas.List.Edits.{length-insert}
use Rattle.std.proofs.lemmas.List.Sums.{sum_by-cons}
use Rattle.psg_grammar.specs.DeclaringTables.{Table, spaces_at, spaces_count, Grows, Adds}
use Rattle.psg_grammar.proofs.Increasing.{increasing-insert, contains_insert_cases, contains_insert_old, contains_insert_new, length-increasing}

pub spaces_at_get : (t : Table) (p : ℕ) (v : Vec ℕ Global) → p < length t → v ≡ get_or t p v → spaces_at t p ≡ v.items
spaces_at_get [] p v lt e = absurd (not-suc-le-zero lt)
spaces_at_get (x ∷ t) zero v lt e = ap (λ (w : Vec ℕ Global). w.items) (sym e)
spaces_at_get (x ∷ t) (suc p) v lt e = spaces_at_get t p v (omega arith) e

pub vec_len-spaces_at : (t : Table) (p : ℕ) (v : Vec ℕ Global) → p < length t → v ≡ get_or t p v → vec_len v ≡ length (spaces_at t p)
vec_len-spaces_at t p v lt e = let f : length (spaces_at t p) ≡ length v.items = ap length (spaces_at_get t p v lt e) in omega (arith, f, v.ok.0)

pub spaces_at_same : (t : Table) (p : ℕ) (v : Vec ℕ Global) → p < length t → spaces_at (set t p v) p ≡ v.items
spaces_at_same [] p v lt = absurd (not-suc-le-zero lt)
spaces_at_same (x ∷ t) zero v lt = refl
spaces_at_same (x ∷ t) (suc p) v lt = spaces_at_same t p v (omega arith)

pub spaces_at_other : (t : Table) (p q : ℕ) (v : Vec ℕ Global) → q ≢ p → spaces_at (set t p v) q ≡ spaces_at t q
spaces_at_other [] p q v ne = refl
spaces_at_other (x ∷ t) zero zero v ne = absurd (ne refl)
spaces_at_other (x ∷ t) zero (suc q) v ne = refl
spaces_at_other (x ∷ t) (suc p) zero v ne = refl
spaces_at_other (x ∷ t) (suc p) (suc q) v ne = spaces_at_other t p q v (λ e. ne (ap suc e))

-- one more phylum, without spaces
pub spaces_at-push : (t : Table) (v : Vec ℕ Global) → v.items ≡ [] → ((p : ℕ) → spaces_at t p ≡ []) → (p : ℕ) → spaces_at (t ++ v ∷ []) p ≡ []
spaces_at-push [] v e h zero = e
spaces_at-push [] v e h (suc p) = refl
spaces_at-push (x ∷ t) v e h zero = h zero
spaces_at-push (x ∷ t) v e h (suc p) = spaces_at-push t v e (λ q. h (suc q)) p

count_cons : (v : Vec ℕ Global) (t : Table) → spaces_count (v ∷ t) ≡ length v.items + spaces_count t
count_cons v t = sum_by-cons (λ (w : Vec ℕ Global). length w.items) v t

count_set : (t : Table) (p : ℕ) (v : Vec ℕ Global) → p < length t → spaces_count (set t p v) + length (spaces_at t p) ≡ spaces_count t + length v.items
count_set [] p v lt = absurd (not-suc-le-zero lt)
count_set (x ∷ t) zero v lt = omega (arith, count_cons v t, count_cons x t)
count_set (x ∷ t) (suc p) v lt = let e : spaces_count (set t p v) + length (spaces_at t p) ≡ spaces_count t + length v.items = count_set t p v (omega arith) in omega (arith, e, count_cons x (set t p v), count_cons x t)

-- ---- one more space

-- a space that is there
pub adds_none : (t u : Table) (p s : ℕ) → u ≡ t → ((q : ℕ) → IsStrictlyIncreasing (spaces_at t q)) → Contains (spaces_at t p) s → Adds t p (λ r. r ≡ s) u false
adds_none t u p s same h there = subst (λ x. Adds t p (λ r. r ≡ s) x false) (sym same) (record {
  one_each = refl;
  increasing = h;
  only = λ q r c. inl c;
  all = λ r e. subst (λ k. Contains (spaces_at t p) k) (sym e) there;
  others = λ q ne. refl;
  grows = record { keeps = λ q r c. c; same = λ e. refl; more = λ e. absurd (true≢false (sym e)) };
})

-- a space put in at its place
pub adds_new : (t : Table) (p s i : ℕ) (v w : Vec ℕ Global) → p < length t → v ≡ get_or t p v → w.items ≡ insert v.items i s → ((q : ℕ) → IsStrictlyIncreasing (spaces_at t q))
    → i ≤ length v.items → ((k : ℕ) → k < i → get_or v.items k 0 < s) → ((k : ℕ) → i ≤ k → k < length v.items → s < get_or v.items k 0) → Adds t p (λ r. r ≡ s) (set t p w) true
adds_new t p s i v w lt is e h le below above = record {
  one_each = length-set t p w;
  increasing = increasing;
  only = only;
  all = λ r same. subst (λ k. Contains (spaces_at (set t p w) p) k) (sym same) (subst (λ xs. Contains xs s) (sym now) (contains_insert_new v.items i s));
  others = λ q ne. spaces_at_other t p q w ne;
  grows = record { keeps = keeps; same = λ f. absurd (true≢false f); more = λ f. more };
} where
  old : spaces_at t p ≡ v.items
  old = spaces_at_get t p v lt is

  now : spaces_at (set t p w) p ≡ insert v.items i s
  now = spaces_at_same t p w lt ∙ e

  increasing : (q : ℕ) → IsStrictlyIncreasing (spaces_at (set t p w) q)
  increasing q = elim (cases_eq q p) [
    | inl same ↦ subst (λ k. IsStrictlyIncreasing (spaces_at (set t p w) k)) (sym same) (subst IsStrictlyIncreasing (sym now) (increasing-insert v.items i s (subst IsStrictlyIncreasing old (h p)) le below above))
    | inr ne ↦ subst IsStrictlyIncreasing (sym (spaces_at_other t p q w ne)) (h q)
  ]

  only : (q r : ℕ) → Contains (spaces_at (set t p w) q) r → Contains (spaces_at t q) r ⊎ ((q ≡ p) × (r ≡ s))
  only q r c = elim (cases_eq q p) [
    | inl same ↦
        let d : Contains (insert v.items i s) r = subst (λ xs. Contains xs r) now (subst (λ k. Contains (spaces_at (set t p w) k) r) same c) in
        elim (contains_insert_cases v.items i s r d) [
          | inl f ↦ inl (subst (λ k. Contains (spaces_at t k) r) (sym same) (subst (λ xs. Contains xs r) (sym old) f))
          | inr f ↦ inr (same, f)
        ]
    | inr ne ↦ inl (subst (λ xs. Contains xs r) (spaces_at_other t p q w ne) c)
  ]

  keeps : (q r : ℕ) → Contains (spaces_at t q) r → Contains (spaces_at (set t p w) q) r
  keeps q r c = elim (cases_eq q p) [
    | inl same ↦
        let d : Contains v.items r = subst (λ xs. Contains xs r) old (subst (λ k. Contains (spaces_at t k) r) same c) in
        subst (λ k. Contains (spaces_at (set t p w) k) r) (sym same) (subst (λ xs. Contains xs r) (sym now) (contains_insert_old v.items i s r d))
    | inr ne ↦ subst (λ xs. Contains xs r) (sym (spaces_at_other t p q w ne)) c
  ]

  more : spaces_count t < spaces_count (set t p w)
  more =
      let a : spaces_count (set t p w) + length (spaces_at t p) ≡ spaces_count t + length w.items = count_set t p w lt in
      let b : length (spaces_at t p) ≡ length v.items = ap length old in
      let c : length w.items ≡ length v.items + 1 = ap length e ∙ length-insert v.items i s le in
      omega (arith, a, b, c)

-- ---- one after another

pub grows_none : (t : Table) → Grows t t false
grows_none t = record { keeps = λ q r c. c; same = λ e. refl; more = λ e. absurd (true≢false (sym e)) }

-- a change in one of two passes is a change in both together
pub record Joins (a b c : Bool) : Type 0 where
  pub none : c ≡ false → (a ≡ false) × (b ≡ false)
  pub some : c ≡ true → (a ≡ true) ⊎ (b ≡ true)

pub joins_then : (a b c : Bool) → b ≡ true → c ≡ true → Joins a b c
joins_then a b c e f = record { none = λ g. absurd (true≢false (sym f ∙ g)); some = λ g. inr e }

pub joins_else : (a b c : Bool) → b ≡ false → c ≡ a → Joins a b c
joins_else a b c e f = record { none = λ g. (sym f ∙ g, e); some = λ g. inl (sym f ∙ g) }

pub grows_then : (t u w : Table) (a b c : Bool) → Grows t u a → Grows u w b → Joins a b c → Grows t w c
grows_then t u w a b c f g j = record {
  keeps = λ q r h. g.keeps q r (f.keeps q r h);
  same = λ e. let (x, y) = j.none e in g.same y ∙ f.same x;
  more = λ e. elim (j.some e) [ inl x ↦ left x b g | inr y ↦ right a f y ];
} where
  counts : (x y : Table) → x ≡ y → spaces_count x ≡ spaces_count y
  counts x y e = ap spaces_count e

  left : a ≡ true → (b : Bool) → Grows u w b → spaces_count t < spaces_count w
  left x true g = let p : spaces_count t < spaces_count u = f.more x in let q : spaces_count u < spaces_count w = g.more refl in omega (arith, p, q)
  left x false g = let p : spaces_count t < spaces_count u = f.more x in let q : spaces_count w ≡ spaces_count u = counts w u (g.same refl) in omega (arith, p, q)

  right : (a : Bool) → Grows t u a → b ≡ true → spaces_count t < spaces_count w
  right true f y = let p : spaces_count t < spaces_count u = f.more refl in let q : spaces_count u < spaces_count w = g.more y in omega (arith, p, q)
  right false f y = let p : spaces_count u ≡ spaces_count t = counts u t (f.same refl) in let q : spaces_count u < spaces_count w = g.more y in omega (arith, p, q)

-- ---- no more than each space for each phylum

pub count_most : (t : Table) (n : ℕ) → ((p : ℕ) → IsStrictlyIncreasing (spaces_at t p)) → ((p s : ℕ) → Contains (spaces_at t p) s → s < n) → spaces_count t ≤ length t * n
count_most [] n h below = omega arith
count_most (v ∷ t) n h below =
    let a : length v.items ≤ n = length-increasing v.items n (h zero) (below zero) in
    let b : spaces_count t ≤ length t * n = count_most t n (λ p. h (suc p)) (λ p. below (suc p)) in
    omega (arith, a, b, count_cons v t)

-- ---- the spaces of a list, up to a place

pub record AddsUpTo (old : Table) (phylum : ℕ) (xs : List ℕ) (n : ℕ) (new : Table) (changed : Bool) : Type 0 where
  pub one_each : length new ≡ length old
  pub increasing : (p : ℕ) → IsStrictlyIncreasing (spaces_at new p)
  pub only : (p s : ℕ) → Contains (spaces_at new p) s → Contains (spaces_at old p) s ⊎ ((p ≡ phylum) × Contains xs s)
  pub upto : (k : ℕ) → k < n → Contains (spaces_at new phylum) (get_or xs k 0)
  pub others : (p : ℕ) → p ≢ phylum → spaces_at new p ≡ spaces_at old p
  pub grows : Grows old new changed

pub adds_up_to_none : (t : Table) (p : ℕ) (xs : List ℕ) → ((q : ℕ) → IsStrictlyIncreasing (spaces_at t q)) → AddsUpTo t p xs 0 t false
adds_up_to_none t p xs h = record { one_each = refl; increasing = h; only = λ q s c. inl c; upto = λ k lt. absurd (not-suc-le-zero lt); others = λ q ne. refl; grows = grows_none t }

-- with the next one, where a changed table is remembered
pub adds_up_to_more : (t u w : Table) (p : ℕ) (xs : List ℕ) (n : ℕ) (a b c : Bool) → AddsUpTo t p xs n u a → n < length xs → Adds u p (λ s. s ≡ get_or xs n 0) w b → Joins a b c → AddsUpTo t p xs (n + 1) w c
adds_up_to_more t u w p xs n a b c f lt g j = record {
  one_each = g.one_each ∙ f.one_each;
  increasing = g.increasing;
  only = only;
  upto = upto;
  others = λ q ne. g.others q ne ∙ f.others q ne;
  grows = grows_then t u w a b c f.grows g.grows j;
} where
  only : (q s : ℕ) → Contains (spaces_at w q) s → Contains (spaces_at t q) s ⊎ ((q ≡ p) × Contains xs s)
  only q s h = elim (g.only q s h) [
    | inl old ↦ f.only q s old
    | inr here ↦ inr (here.0, subst (Contains xs) (sym here.1) (Contains-get_or xs n 0 lt))
  ]

  upto : (k : ℕ) → k < n + 1 → Contains (spaces_at w p) (get_or xs k 0)
  upto k below = elim (cases_eq k n) [
    | inl e ↦ g.all (get_or xs k 0) (ap (λ j. get_or xs j 0) e)
    | inr ne ↦ g.grows.keeps p (get_or xs k 0) (f.upto k (grind arith))
  ]

pub adds_all : (t u : Table) (p from n : ℕ) (changed : Bool) → AddsUpTo t p (spaces_at t from) n u changed → length (spaces_at t from) ≤ n → Adds t p (Contains (spaces_at t from)) u changed
adds_all t u p from n changed f e = record {
  one_each = f.one_each;
  increasing = f.increasing;
  only = f.only;
  all = all;
  others = f.others;
  grows = f.grows;
} where
  all : (s : ℕ) → Contains (spaces_at t from) s → Contains (spaces_at u p) s
  all s (k, lt, at) =
      let there : Contains (spaces_at u p) (get_or (spaces_at t from) k 0) = f.upto k (omega (arith, e, lt)) in
      subst (Contains (spaces_at u p)) (get_or_default (spaces_at t from) k 0 s lt ∙ at) there
