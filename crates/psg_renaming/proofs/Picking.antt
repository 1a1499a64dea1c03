-- The columns of some keys in the order of other ones, behind columns that stay in front.
use Rattle.std.proofs.Common.{◌≡◌, inl, inr, ℕ, zero, suc, ◌+◌, ◌<◌, true, false, cond, ◌||◌, List, [], ◌∷◌, ◌++◌, map, length, bytes_eq, Option, Some, None, slice_get, option_map, refl, ap, ap₂, sym, ◌∙◌, subst, true≢false, arith}
use Rattle.std.specs.Prelude.{All}
use Rattle.std.specs.List.{AllByRecursion}
use Rattle.std.proofs.lemmas.Option.{slice_get-map, slice_get_within}
use Rattle.std.proofs.lemmas.List.Elements.{All-nil, All-cons}
use Rattle.std.proofs.lemmas.Bool.{cases_Bool, or_right, or_left}
use Rattle.psg_terms.specs.Names.{is_among, has_twice}
use Rattle.psg_grammar.specs.Keys.{Key}
use Rattle.psg_grammar.proofs.NamePlaces.{once}
use Rattle.psg_scope.proofs.KeyLists.{key_is, key_refl}
use Rattle.psg_relation.specs.Choices.{pick, picked}
use Rattle.psg_relation.specs.Fewer.{KeptOnce}

-- where the key stands in the list
abbrev pub index_of : List Key → Key → ℕ
index_of [] k = 0
index_of (m ∷ ms) k = cond (bytes_eq m k) 0 (suc (index_of ms k))

at_index : (ms : List Key) (k : Key) → is_among ms k ≡ true → slice_get ms (index_of ms k) ≡ Some k
at_index [] k e = absurd (true≢false (sym e))
at_index (m ∷ ms) k e = elim (cases_Bool (bytes_eq m k)) [
  | inl a ↦ ap (λ b. slice_get (m ∷ ms) (cond b 0 (suc (index_of ms k)))) a ∙ ap Some (key_is m k a)
  | inr a ↦ ap (λ b. slice_get (m ∷ ms) (cond b 0 (suc (index_of ms k)))) a
      ∙ at_index ms k (sym (ap (λ b. b || is_among ms k) a) ∙ e)
]

-- the keys of the one list are keys of the other
abbrev pub AreAmong : List Key → List Key → Type 0
AreAmong ks ms = (k : Key) → is_among ks k ≡ true → is_among ms k ≡ true

tail_among : (k : Key) (ks ms : List Key) → AreAmong (k ∷ ks) ms → AreAmong ks ms
tail_among k ks ms h n e = h n (or_right (bytes_eq k n) (is_among ks n) e)

head_among : (k : Key) (ks ms : List Key) → AreAmong (k ∷ ks) ms → is_among ms k ≡ true
head_among k ks ms h = h k (or_left (bytes_eq k k) (is_among ks k) (key_refl k))

abbrev pub places : List Key → List Key → List ℕ
places ms ks = map (index_of ms) ks

picked_places : {X : Type 0} (g : Key → X) (ms ks : List Key) → AreAmong ks ms
    → picked (map g ms) (places ms ks) ≡ map g ks
picked_places g ms [] h = refl
picked_places g ms (k ∷ ks) h =
    ap₂ pick (slice_get-map g ms (index_of ms k) ∙ ap (option_map g) (at_index ms k (head_among k ks ms h)))
    (picked_places g ms ks (tail_among k ks ms h))

within_places : (ms ks : List Key) → AreAmong ks ms → AllByRecursion (λ k. k < length ms) (places ms ks)
within_places ms [] h = tt
within_places ms (k ∷ ks) h = (
  slice_get_within ms (index_of ms k) k (at_index ms k (head_among k ks ms h)),
  within_places ms ks
      (tail_among k ks ms h),
)

found : {X Y : Type 0} (f : X → Y) (o : Option X) (y : Y) → option_map f o ≡ Some y
    → (x : X) × (o ≡ Some x) × (f x ≡ y)
found f None y e = absurd (cc)
found f (Some x) y e = (x, refl, (cc))

among_got : (ks : List Key) (i : ℕ) (k : Key) → slice_get ks i ≡ Some k → is_among ks k ≡ true
among_got [] i k e = absurd (cc)
among_got (m ∷ ks) zero k e =
    let same : m ≡ k = cc in or_left (bytes_eq m k) (is_among ks k) (subst (λ n. bytes_eq m n ≡ true) same (key_refl m))
among_got (m ∷ ks) (suc i) k e = or_right (bytes_eq m k) (is_among ks k) (among_got ks i k e)

once_places : (ms ks : List Key) → has_twice ks ≡ false → AreAmong ks ms → KeptOnce (places ms ks)
once_places ms ks h all i j n e f =
    let (a, at_a, na) = found (index_of ms) (slice_get ks i) n (sym (slice_get-map (index_of ms) ks i) ∙ e) in
    let (b, at_b, nb) = found (index_of ms) (slice_get ks j) n (sym (slice_get-map (index_of ms) ks j) ∙ f) in
    let ga : slice_get ms n ≡ Some a = ap (slice_get ms) (sym na) ∙ at_index ms a (all a (among_got ks i a at_a)) in
    let gb : slice_get ms n ≡ Some b = ap (slice_get ms) (sym nb) ∙ at_index ms b (all b (among_got ks j b at_b)) in
    let both : ◌≡◌ {A = Option Key} (Some a) (Some b) = sym ga ∙ gb in
    let same : a ≡ b = cc in
    once ks h i j a at_a (at_b ∙ ap Some (sym same))

-- ---- behind columns that stay in front

abbrev pub shifted : ℕ → List ℕ → List ℕ
shifted zero ks = ks
shifted (suc m) ks = 0 ∷ map suc (shifted m ks)

picked_suc : {X : Type 0} (x : X) (xs : List X) (ks : List ℕ) → picked (x ∷ xs) (map suc ks) ≡ picked xs ks
picked_suc x xs [] = refl
picked_suc x xs (k ∷ ks) = ap (pick (slice_get xs k)) (picked_suc x xs ks)

picked_shifted : {X : Type 0} (front xs : List X) (ks : List ℕ)
    → picked (front ++ xs) (shifted (length front) ks) ≡ front ++ picked xs ks
picked_shifted [] xs ks = refl
picked_shifted (x ∷ front) xs ks =
    ap (λ l. x ∷ l) (picked_suc x (front ++ xs) (shifted (length front) ks) ∙ picked_shifted front xs ks)

once_zero : (ks : List ℕ) → KeptOnce ks → KeptOnce (0 ∷ map suc ks)
once_zero ks h zero zero n e f = refl
once_zero ks h zero (suc j) n e f =
    let (a, at_a, na) = found suc (slice_get ks j) n (sym (slice_get-map suc ks j) ∙ f) in
    let z : 0 ≡ n = cc in
    absurd (omega (arith, z, na))
once_zero ks h (suc i) zero n e f =
    let (a, at_a, na) = found suc (slice_get ks i) n (sym (slice_get-map suc ks i) ∙ e) in
    let z : 0 ≡ n = cc in
    absurd (omega (arith, z, na))
once_zero ks h (suc i) (suc j) n e f =
    let (a, at_a, na) = found suc (slice_get ks i) n (sym (slice_get-map suc ks i) ∙ e) in
    let (b, at_b, nb) = found suc (slice_get ks j) n (sym (slice_get-map suc ks j) ∙ f) in
    let same : b ≡ a = omega (arith, na, nb) in
    ap suc (h i j a at_a (at_b ∙ ap Some same))

once_shifted : (m : ℕ) (ks : List ℕ) → KeptOnce ks → KeptOnce (shifted m ks)
once_shifted zero ks h = h
once_shifted (suc m) ks h = once_zero (shifted m ks) (once_shifted m ks h)

within_suc : (n : ℕ) (ks : List ℕ) → AllByRecursion (λ k. k < n) ks → AllByRecursion (λ k. k < suc n) (map suc ks)
within_suc n [] h = tt
within_suc n (k ∷ ks) (a, h) = (omega (arith, a), within_suc n ks h)

within_shifted : (m n : ℕ) (ks : List ℕ) → AllByRecursion (λ k. k < n) ks
    → AllByRecursion (λ k. k < m + n) (shifted m ks)
within_shifted zero n ks h = subst (λ l. AllByRecursion (λ k. k < l) ks) (let e : n ≡ 0 + n = omega arith in e) h
within_shifted (suc m) n ks h = (
  omega arith,
  subst (λ l. AllByRecursion (λ k. k < l) (map suc (shifted m ks)))
      (let e : suc (m + n) ≡ suc m + n = omega arith in e)
      (within_suc (m + n) (shifted m ks) (within_shifted m n ks h)),
)

all_from : {X : Type 0} (P : X → Type 0) (xs : List X) → AllByRecursion P xs → All P xs
all_from P [] h = All-nil P
all_from P (x ∷ xs) (a, h) = All-cons P x xs a (all_from P xs h)

-- ---- all together

pub taken : {X : Type 0} (g : Key → X) (m : ℕ) (front : List X) (ms ks : List Key) → length front ≡ m → AreAmong ks ms
    → picked (front ++ map g ms) (shifted m (places ms ks)) ≡ front ++ map g ks
taken g m front ms ks e h =
    ap (λ n. picked (front ++ map g ms) (shifted n (places ms ks))) (sym e)
    ∙ picked_shifted front (map g ms) (places ms ks) ∙ ap (λ l. front ++ l) (picked_places g ms ks h)

pub taken_once : (m : ℕ) (ms ks : List Key) → has_twice ks ≡ false → AreAmong ks ms
    → KeptOnce (shifted m (places ms ks))
taken_once m ms ks h all = once_shifted m (places ms ks) (once_places ms ks h all)

pub taken_within : (m n : ℕ) (ms ks : List Key) → AreAmong ks ms → n ≡ m + length ms
    → All (λ k. k < n) (shifted m (places ms ks))
taken_within m n ms ks h e =
    subst (λ l. All (λ k. k < l) (shifted m (places ms ks))) (sym e)
    (all_from (λ k. k < m + length ms) (shifted m (places ms ks))
    (within_shifted m (length ms) (places ms ks) (within_places ms ks h)))
