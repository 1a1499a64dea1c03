-- Lists of keys in order, each once.
use Rattle.std.proofs.Common.{◌≡◌, inl, inr, Bool, true, false, ◌||◌, List, [], ◌∷◌, refl, sym, ap, subst, ◌∙◌, bytes_eq, true≢false}
use Rattle.std.specs.List.{AllByRecursion}
use Rattle.std.proofs.lemmas.Slice.Eq.{bytes_eq-Decides}
use Rattle.std.proofs.lemmas.Bool.{cases_Bool, false_from_ne_true, or_cases, or_right, or_left}
use Rattle.std.specs.declared.cmp.Ordering.{Ordering}
use Rattle.std.specs.declared.cmp.Ordering.TheVariants.{Less, Equal, Greater}
use Rattle.psg_terms.specs.Names.{is_among}
use Rattle.psg_grammar.specs.Keys.{Key, key_cmp, insert_key, placed, in_order}
use Rattle.psg_scope.specs.Headers.{IsKey, IsBelow, AreRising}
use Rattle.psg_scope.proofs.KeyOrder.{key_total, key_exact, key_same, key_turned}

pub key_is : (n m : Key) → bytes_eq n m ≡ true → n ≡ m
key_is n m e = (bytes_eq-Decides n m).0 e

pub key_refl : (n : Key) → bytes_eq n n ≡ true
key_refl n = (bytes_eq-Decides n n).1 refl

pub or-swap : (a b c : Bool) → (a || (b || c)) ≡ (b || (a || c))
or-swap true true c = refl
or-swap true false c = refl
or-swap false b c = refl

-- a key below another is another one
pub less-differs : (n m : Key) → key_cmp n m ≡ Less → bytes_eq n m ≡ false
less-differs n m h = false_from_ne_true (bytes_eq n m) (λ e. absurd (clash (key_is n m e)))
  where
    clash : n ≡ m → ⊥
    clash e =
        let p : key_cmp n n ≡ Less = subst (λ k. key_cmp n k ≡ Less) (sym e) h in
        let q : key_cmp n n ≡ Equal = key_same n in
        absurd (cc)

pub less-differs_back : (n m : Key) → key_cmp m n ≡ Less → bytes_eq n m ≡ false
less-differs_back n m h = false_from_ne_true (bytes_eq n m) (λ e. absurd (clash (key_is n m e)))
  where
    clash : n ≡ m → ⊥
    clash e =
        let p : key_cmp n n ≡ Less = subst (λ k. key_cmp k n ≡ Less) (sym e) h in
        let q : key_cmp n n ≡ Equal = key_same n in
        absurd (cc)

pub below-through : (n m : Key) (ks : List Key) → key_cmp n m ≡ Less → IsBelow m ks → IsBelow n ks
below-through n m [] h b = tt
below-through n m (k ∷ ks) h b = (key_total.trans n m k h b.0, below-through n m ks h b.1)

pub below-among : (n m : Key) (ks : List Key) → IsBelow n ks → is_among ks m ≡ true → key_cmp n m ≡ Less
below-among n m [] b e = absurd (true≢false (sym e))
below-among n m (k ∷ ks) b e = elim (or_cases (bytes_eq k m) (is_among ks m) e) [
  | inl same ↦ subst (λ q. key_cmp n q ≡ Less) (key_is k m same) b.0
  | inr later ↦ below-among n m ks b.1 later
]

pub below-absent : (n : Key) (ks : List Key) → IsBelow n ks → is_among ks n ≡ false
below-absent n ks b = false_from_ne_true (is_among ks n) (λ e. absurd (clash e))
  where
    clash : is_among ks n ≡ true → ⊥
    clash e =
        let p : key_cmp n n ≡ Less = below-among n n ks b e in
        let q : key_cmp n n ≡ Equal = key_same n in
        absurd (cc)

-- keys that are all among others below which n is
pub below-all : (n : Key) (ks : List Key) → ((m : Key) → is_among ks m ≡ true → key_cmp n m ≡ Less) → IsBelow n ks
below-all n [] f = tt
below-all n (k ∷ ks) f = (f k (or_left (bytes_eq k k) (is_among ks k) (key_refl k)), below-all n ks (λ m e. f m (or_right (bytes_eq k m) (is_among ks m) e)))

-- ---- keys put in at their places

pub key-among : (n m : Key) → IsKey m → bytes_eq m n ≡ true → IsKey n
key-among n m h e = subst IsKey (key_is m n e) h

pub among-whole : (ks : List Key) (n : Key) → AllByRecursion IsKey ks → is_among ks n ≡ true → IsKey n
among-whole [] n w e = absurd (true≢false (sym e))
among-whole (k ∷ ks) n w e = elim (or_cases (bytes_eq k n) (is_among ks n) e) [
  | inl same ↦ key-among n k w.0 same
  | inr later ↦ among-whole ks n w.1 later
]

placed-among : (r : Ordering) (n m k : Key) (rest more : List Key) → IsKey n → IsKey m → key_cmp n m ≡ r
    → is_among more k ≡ (bytes_eq n k || is_among rest k) → is_among (placed r n m rest more) k ≡ (bytes_eq n k || (bytes_eq m k || is_among rest k))
placed-among Less n m k rest more h i e f = refl
placed-among Equal n m k rest more h i e f =
    let same : n ≡ m = key_exact n m h i e in
    subst (λ q. (bytes_eq m k || is_among rest k) ≡ (bytes_eq q k || (bytes_eq m k || is_among rest k))) (sym same) (twice (bytes_eq m k) (is_among rest k))
  where
    twice : (a b : Bool) → (a || b) ≡ (a || (a || b))
    twice true b = refl
    twice false b = refl
placed-among Greater n m k rest more h i e f = ap (λ b. bytes_eq m k || b) f ∙ or-swap (bytes_eq m k) (bytes_eq n k) (is_among rest k)

pub insert-among : (n k : Key) (ms : List Key) → IsKey n → AllByRecursion IsKey ms → is_among (insert_key n ms) k ≡ (bytes_eq n k || is_among ms k)
insert-among n k [] h w = refl
insert-among n k (m ∷ ms) h w = placed-among (key_cmp n m) n m k ms (insert_key n ms) h w.0 refl (insert-among n k ms h w.1)

placed-whole : (r : Ordering) (n m : Key) (rest more : List Key) → IsKey n → IsKey m → AllByRecursion IsKey rest → AllByRecursion IsKey more
    → AllByRecursion IsKey (placed r n m rest more)
placed-whole Less n m rest more h i w v = (h, (i, w))
placed-whole Equal n m rest more h i w v = (i, w)
placed-whole Greater n m rest more h i w v = (i, v)

pub insert-whole : (n : Key) (ms : List Key) → IsKey n → AllByRecursion IsKey ms → AllByRecursion IsKey (insert_key n ms)
insert-whole n [] h w = (h, tt)
insert-whole n (m ∷ ms) h w = placed-whole (key_cmp n m) n m ms (insert_key n ms) h w.0 w.1 (insert-whole n ms h w.1)

placed-rising : (r : Ordering) (n m : Key) (rest more : List Key) → key_cmp n m ≡ r → IsBelow m rest → AreRising rest → AreRising more
    → (key_cmp m n ≡ Less → IsBelow m more) → AreRising (placed r n m rest more)
placed-rising Less n m rest more e b s t f = ((e, below-through n m rest e b), (b, s))
placed-rising Equal n m rest more e b s t f = (b, s)
placed-rising Greater n m rest more e b s t f = (f (key_turned n m e), t)

pub insert-rising : (n : Key) (ms : List Key) → IsKey n → AllByRecursion IsKey ms → AreRising ms → AreRising (insert_key n ms)
insert-rising n [] h w s = (tt, tt)
insert-rising n (m ∷ ms) h w s =
    placed-rising (key_cmp n m) n m ms (insert_key n ms) refl s.0 s.1 (insert-rising n ms h w.1 s.1) (λ less. below-all m (insert_key n ms) (λ k e.
    elim (or_cases (bytes_eq n k) (is_among ms k) (sym (insert-among n k ms h w.1) ∙ e)) [
      | inl same ↦ subst (λ q. key_cmp m q ≡ Less) (key_is n k same) less
      | inr later ↦ below-among m k ms s.0 later
    ]))

pub in_order-whole : (ns : List Key) → AllByRecursion IsKey ns → AllByRecursion IsKey (in_order ns)
in_order-whole [] w = tt
in_order-whole (n ∷ ns) w = insert-whole n (in_order ns) w.0 (in_order-whole ns w.1)

pub in_order-rising : (ns : List Key) → AllByRecursion IsKey ns → AreRising (in_order ns)
in_order-rising [] w = tt
in_order-rising (n ∷ ns) w = insert-rising n (in_order ns) w.0 (in_order-whole ns w.1) (in_order-rising ns w.1)

pub in_order-among : (ns : List Key) (k : Key) → AllByRecursion IsKey ns → is_among (in_order ns) k ≡ is_among ns k
in_order-among [] k w = refl
in_order-among (n ∷ ns) k w = insert-among n k (in_order ns) w.0 (in_order-whole ns w.1) ∙ ap (λ b. bytes_eq n k || b) (in_order-among ns k w.1)

-- ---- rising lists with the same keys are equal

module _ (k m : Key) (ks ms : List Key) where
  -- the first of one list is not below the first of the other
  first_not_below : IsBelow m ms → ((n : Key) → is_among (k ∷ ks) n ≡ is_among (m ∷ ms) n) → key_cmp k m ≡ Less → ⊥
  first_not_below b same less =
      let there : is_among (m ∷ ms) k ≡ true = sym (same k) ∙ or_left (bytes_eq k k) (is_among ks k) (key_refl k) in
      let here : bytes_eq m k ≡ false = less-differs_back m k less in
      let all : IsBelow k ms = below-through k m ms less b in
      let gone : is_among ms k ≡ false = below-absent k ms all in
      absurd (true≢false (sym there ∙ ap (λ c. c || is_among ms k) here ∙ gone))

pub rising-same : (ks ms : List Key) → AreRising ks → AreRising ms → AllByRecursion IsKey ks → AllByRecursion IsKey ms
    → ((n : Key) → is_among ks n ≡ is_among ms n) → ks ≡ ms
rising-same [] [] s t w v same = refl
rising-same [] (m ∷ ms) s t w v same = absurd (true≢false (sym (same m ∙ or_left (bytes_eq m m) (is_among ms m) (key_refl m))))
rising-same (k ∷ ks) [] s t w v same = absurd (true≢false (sym (or_left (bytes_eq k k) (is_among ks k) (key_refl k)) ∙ same k))
rising-same (k ∷ ks) (m ∷ ms) s t w v same = by (λ f. rising-same ks ms s.1 t.1 w.1 v.1 f) (key_cmp k m) refl
  where
    tails : k ≡ m → (n : Key) → is_among ks n ≡ is_among ms n
    tails e n = elim (cases_Bool (bytes_eq k n)) [
      | inl here ↦
          let p : is_among ks n ≡ false = subst (λ q. is_among ks q ≡ false) (key_is k n here) (below-absent k ks s.0) in
          let q : is_among ms n ≡ false = subst (λ q. is_among ms q ≡ false) (sym e ∙ key_is k n here) (below-absent m ms t.0) in
          p ∙ sym q
      | inr other ↦
          let p : is_among (k ∷ ks) n ≡ is_among ks n = ap (λ c. c || is_among ks n) other in
          let q : is_among (m ∷ ms) n ≡ is_among ms n = ap (λ c. c || is_among ms n) (subst (λ x. bytes_eq x n ≡ false) e other) in
          sym p ∙ same n ∙ q
    ]

    by : (((n : Key) → is_among ks n ≡ is_among ms n) → ks ≡ ms) → (r : Ordering) → key_cmp k m ≡ r → k ∷ ks ≡ m ∷ ms
    by rest Less e = absurd (first_not_below k m ks ms t.0 same e)
    by rest Equal e =
        let h : k ≡ m = key_exact k m w.0 v.0 e in
        let behind : ks ≡ ms = rest (tails h) in
        cc
    by rest Greater e = absurd (first_not_below m k ms ks s.0 (λ n. sym (same n)) (key_turned k m e))
