-- How often names stand in lists.
use Rattle.std.proofs.Common.{◌≡◌, inl, inr, ℕ, ◌+◌, ◌≤◌, Bool, true, false, cond, not, ◌||◌, List, [], ◌∷◌, ◌++◌, bytes_eq, refl, ap, ap₂, sym, ◌∙◌, subst, true≢false, arith}
use Rattle.std.proofs.lemmas.Bool.{cases_Bool, or_parts}
use Rattle.psg_terms.proofs.DeclareLaws.{bytes_eq-same, bytes_eq-refl}
use Rattle.psg_grammar.specs.Keys.{Key}
use Rattle.psg_terms.specs.Names.{is_among, has_twice}
use Rattle.psg_completions.proofs.NameLaws.{only}
use Rattle.psg_completions.specs.Counts.{one_if, tally, count}

pub tally_append : (p : Key → Bool) (xs ys : List Key) → tally p (xs ++ ys) ≡ tally p xs + tally p ys
tally_append p [] ys = omega arith
tally_append p (x ∷ xs) ys = let d : tally p (xs ++ ys) ≡ tally p xs + tally p ys = tally_append p xs ys in
    omega (arith, d)

pub none_among : (m : Key) (xs : List Key) → is_among xs m ≡ false → count m xs ≡ 0
none_among m [] e = refl
none_among m (x ∷ xs) e =
    let (a, b) = or_parts (bytes_eq x m) (is_among xs m) e in
    let c : one_if (bytes_eq x m) ≡ 0 = ap one_if a in
    let d : count m xs ≡ 0 = none_among m xs b in
    omega (arith, c, d)

pub among_none : (m : Key) (xs : List Key) → count m xs ≡ 0 → is_among xs m ≡ false
among_none m [] e = refl
among_none m (x ∷ xs) e = elim (cases_Bool (bytes_eq x m)) [
  | inl t ↦ let c : one_if (bytes_eq x m) ≡ 1 = ap one_if t in
      absurd (let z : 1 ≤ 0 = omega (arith, c, e) in omega (arith, z))
  | inr f ↦ let c : one_if (bytes_eq x m) ≡ 0 = ap one_if f in let d : count m xs ≡ 0 = omega (arith, c, e) in
      ap₂ (λ a b. a || b) f (among_none m xs d)
]

pub once_of : (m : Key) (xs : List Key) → has_twice xs ≡ false → count m xs ≤ 1
once_of m [] e = omega arith
once_of m (x ∷ xs) e =
    let (a, b) = or_parts (is_among xs x) (has_twice xs) e in
    let d : count m xs ≤ 1 = once_of m xs b in
    elim (cases_Bool (bytes_eq x m)) [
      | inl t ↦
          let c : one_if (bytes_eq x m) ≡ 1 = ap one_if t in
          let z : count m xs ≡ 0 = none_among m xs (subst (λ y. is_among xs y ≡ false) (bytes_eq-same x m t) a) in
          omega (arith, c, z)
      | inr f ↦ let c : one_if (bytes_eq x m) ≡ 0 = ap one_if f in omega (arith, c, d)
    ]

pub of_once : (xs : List Key) → ((m : Key) → count m xs ≤ 1) → has_twice xs ≡ false
of_once [] h = refl
of_once (x ∷ xs) h =
    let c : one_if (bytes_eq x x) ≡ 1 = ap one_if (bytes_eq-refl x) in
    let k : one_if (bytes_eq x x) + count x xs ≤ 1 = h x in
    let z : count x xs ≡ 0 = omega (arith, c, k) in
    ap₂ (λ a b. a || b) (among_none x xs z)
    (of_once xs (λ m. let j : one_if (bytes_eq x m) + count m xs ≤ 1 = h m in omega (arith, j)))

abbrev pub AllAre : (Key → Bool) → List Key → Type 0
AllAre p [] = Unit {0}
AllAre p (n ∷ ns) = (p n ≡ true) × AllAre p ns

pub none_are : (p : Key → Bool) (xs : List Key) → ((n : Key) → p n ≡ false) → AllAre p xs → xs ≡ []
none_are p [] h a = refl
none_are p (x ∷ xs) h (a, b) = absurd (true≢false (sym a ∙ h x))

pub all_only : (p : Key → Bool) (xs : List Key) → AllAre p (only p xs)
all_only p [] = tt
all_only p (x ∷ xs) = go (all_only p xs) (p x) refl where
  go : AllAre p (only p xs) → (b : Bool) → p x ≡ b → AllAre p (cond b (x ∷ only p xs) (only p xs))
  go h true e = (e, h)
  go h false e = h

pub all_kept : (p q : Key → Bool) (xs : List Key) → AllAre q xs → AllAre q (only p xs)
all_kept p q [] h = tt
all_kept p q (x ∷ xs) (a, h) = go (all_kept p q xs h) (p x) where
  go : AllAre q (only p xs) → (b : Bool) → AllAre q (cond b (x ∷ only p xs) (only p xs))
  go k true = (a, k)
  go k false = k

-- what isn't of the one is of the other
pub all_rest : (p q : Key → Bool) (xs : List Key) → AllAre (λ n. p n || q n) xs → AllAre q (only (λ n. not (p n)) xs)
all_rest p q [] h = tt
all_rest p q (x ∷ xs) (a, h) = go (all_rest p q xs h) (p x) refl where
  go : AllAre q (only (λ n. not (p n)) xs) → (b : Bool) → p x ≡ b
      → AllAre q (cond (not b) (x ∷ only (λ n. not (p n)) xs) (only (λ n. not (p n)) xs))
  go k true e = k
  go k false e = (sym (ap (λ b. b || q x) e) ∙ a, k)

pub count_split : (m : Key) (p : Key → Bool) (xs : List Key)
    → count m (only p xs) + count m (only (λ n. not (p n)) xs) ≡ count m xs
count_split m p [] = omega arith
count_split m p (x ∷ xs) = go (count_split m p xs) (p x) where
  go : count m (only p xs) + count m (only (λ n. not (p n)) xs) ≡ count m xs → (b : Bool)
      → count m (cond b (x ∷ only p xs) (only p xs)) + count m
      (cond (not b) (x ∷ only (λ n. not (p n)) xs) (only (λ n. not (p n)) xs)) ≡ count m (x ∷ xs)
  go h true = omega (arith, h)
  go h false = omega (arith, h)

pub count_only : (m : Key) (p : Key → Bool) (xs : List Key) → count m (only p xs) ≡ cond (p m) (count m xs) 0
count_only m p [] = nothing (p m) where
  nothing : (b : Bool) → count m [] ≡ cond b (count m []) 0
  nothing true = refl
  nothing false = refl
count_only m p (x ∷ xs) = elim (cases_Bool (bytes_eq x m)) [
  | inl t ↦ go (count_only m p xs) (ap p (bytes_eq-same x m t)) (p m) refl
  | inr f ↦
      let z : one_if (bytes_eq x m) ≡ 0 = ap one_if f in
      let a : count m (only p (x ∷ xs)) ≡ count m (only p xs) = skip z (p x) in
      let y : count m xs ≡ count m (x ∷ xs) = omega (arith, z) in
      a ∙ count_only m p xs ∙ ap (λ k. cond (p m) k 0) y
] where
  skip : one_if (bytes_eq x m) ≡ 0 → (b : Bool) → count m (cond b (x ∷ only p xs) (only p xs)) ≡ count m (only p xs)
  skip z true = omega (arith, z)
  skip z false = refl

  go : count m (only p xs) ≡ cond (p m) (count m xs) 0 → p x ≡ p m → (b : Bool) → p m ≡ b
      → count m (only p (x ∷ xs)) ≡ cond (p m) (count m (x ∷ xs)) 0
  go h same true e =
      let a : count m (only p (x ∷ xs)) ≡ count m (x ∷ only p xs) =
      ap (λ b. count m (cond b (x ∷ only p xs) (only p xs))) (same ∙ e) in
      let c : count m (only p xs) ≡ count m xs = h ∙ ap (λ b. cond b (count m xs) 0) e in
      let d : cond (p m) (count m (x ∷ xs)) 0 ≡ count m (x ∷ xs) = ap (λ b. cond b (count m (x ∷ xs)) 0) e in
      omega (arith, a, c, d)
  go h same false e =
      let a : count m (only p (x ∷ xs)) ≡ count m (only p xs) =
      ap (λ b. count m (cond b (x ∷ only p xs) (only p xs))) (same ∙ e) in
      let c : count m (only p xs) ≡ 0 = h ∙ ap (λ b. cond b (count m xs) 0) e in
      let d : cond (p m) (count m (x ∷ xs)) 0 ≡ 0 = ap (λ b. cond b (count m (x ∷ xs)) 0) e in
      omega (arith, a, c, d)

-- A change of keys, and back. Mine are the keys that then stand in a tree.
pub record Renaming : Type 0 where
  pub to : Key → Key
  pub back : Key → Key
  pub mine : Key → Bool

-- keys in the image of a change
module _ (names : Renaming) where
  abbrev pub image : Key → List Key → ℕ
  image m xs = tally (λ x. bytes_eq (names.to x) m) xs

  abbrev pub Own : List Key → Type 0
  Own [] = Unit {0}
  Own (x ∷ xs) = (names.mine (names.to x) ≡ true) × (names.back (names.to x) ≡ x) × Own xs

  pub own_append : (xs ys : List Key) → Own xs → Own ys → Own (xs ++ ys)
  own_append [] ys a b = b
  own_append (x ∷ xs) ys (p, q, a) b = (p, q, own_append xs ys a b)

  pub own_cond : (b : Bool) (xs : List Key) → Own xs → Own (cond b [] xs)
  own_cond true xs h = tt
  own_cond false xs h = h

  pub image_below : (m : Key) (xs : List Key) → Own xs → image m xs ≤ count (names.back m) xs
  image_below m [] h = omega arith
  image_below m (x ∷ xs) (p, q, h) =
      let d : image m xs ≤ count (names.back m) xs = image_below m xs h in
      elim (cases_Bool (bytes_eq (names.to x) m)) [
        | inl t ↦
            let e : names.back m ≡ x = ap names.back (sym (bytes_eq-same (names.to x) m t)) ∙ q in
            let c : one_if (bytes_eq (names.to x) m) ≡ 1 = ap one_if t in
            let s : one_if (bytes_eq x (names.back m)) ≡ 1 =
            ap one_if (subst (λ y. bytes_eq x y ≡ true) (sym e) (bytes_eq-refl x)) in
            omega (arith, c, s, d)
        | inr f ↦ let c : one_if (bytes_eq (names.to x) m) ≡ 0 = ap one_if f in omega (arith, c, d)
      ]

  pub image_mine : (m : Key) (xs : List Key) → Own xs → names.mine m ≡ false → image m xs ≡ 0
  image_mine m [] h e = refl
  image_mine m (x ∷ xs) (p, q, h) e =
      let d : image m xs ≡ 0 = image_mine m xs h e in
      elim (cases_Bool (bytes_eq (names.to x) m)) [
        | inl t ↦ absurd (true≢false (sym p ∙ ap names.mine (bytes_eq-same (names.to x) m t) ∙ e))
        | inr f ↦ let c : one_if (bytes_eq (names.to x) m) ≡ 0 = ap one_if f in omega (arith, c, d)
      ]

  pub image_none : (m : Key) (xs : List Key) → names.to (names.back m) ≡ m → image m xs ≡ 0
      → is_among xs (names.back m) ≡ false
  image_none m [] r e = refl
  image_none m (x ∷ xs) r e = elim (cases_Bool (bytes_eq x (names.back m))) [
    | inl t ↦
        let c : one_if (bytes_eq (names.to x) m) ≡ 1 =
        ap one_if (subst (λ y. bytes_eq (names.to x) y ≡ true) (ap names.to (bytes_eq-same x (names.back m) t) ∙ r)
        (bytes_eq-refl (names.to x))) in
        absurd (let z : 1 ≤ 0 = omega (arith, c, e) in omega (arith, z))
    | inr f ↦ ap₂ (λ a b. a || b) f (image_none m xs r (omega (arith, e)))
  ]

  pub image_above : (m : Key) (xs : List Key) → names.to (names.back m) ≡ m → count (names.back m) xs ≤ image m xs
  image_above m [] r = omega arith
  image_above m (x ∷ xs) r =
      let d : count (names.back m) xs ≤ image m xs = image_above m xs r in
      elim (cases_Bool (bytes_eq x (names.back m))) [
        | inl t ↦
            let c : one_if (bytes_eq x (names.back m)) ≡ 1 = ap one_if t in
            let s : one_if (bytes_eq (names.to x) m) ≡ 1 =
            ap one_if (subst (λ y. bytes_eq (names.to x) y ≡ true)
            (ap names.to (bytes_eq-same x (names.back m) t) ∙ r) (bytes_eq-refl (names.to x))) in
            omega (arith, c, s, d)
        | inr f ↦ let c : one_if (bytes_eq x (names.back m)) ≡ 0 = ap one_if f in omega (arith, c, d)
      ]
