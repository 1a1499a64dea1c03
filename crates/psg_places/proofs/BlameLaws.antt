-- That there is one list of answers, and that what is kept is good.
use Rattle.std.proofs.Common.{◌≡◌, ◌⊎◌, inl, inr, ℕ, zero, suc, ◌<◌, ◌≤◌, nat_lt, ◌==◌, ◌&&◌, Bool, true, false, cond, List, [], ◌∷◌, length, take, refl, ap, ap₂, sym, ◌∙◌, subst, arith, true≢false}
use Rattle.std.proofs.lemmas.Bool.{cases_lt, cases_eq, lt-ltb, le-ltb, eq-eqb, ne_eqb}
use Rattle.psg_terms.specs.Names.{Name}
use Rattle.psg_grammar.specs.declared.types.Definition.{Definition}
use Rattle.psg_grammar.specs.Fragments.{Fragment}
use Rattle.psg_places.specs.Places.{place_count}
use Rattle.psg_places.specs.Opened.{opened}
use Rattle.std.proofs.lemmas.List.{take_all}
use Rattle.psg_places.specs.Blame.{AreAllAnswers, AreAnswers, blamed_in, kept_in, up_to, kept_of_first, none_kept}
use Rattle.psg_places.specs.Blame.{IsBlameUpTo, IsGoodIfKept, IsNeeded, IsOne, IsFalling, KeepsAll, Leaves}
use Rattle.psg_places.proofs.OfPlacesLaws.{of_places}
use Rattle.psg_places.proofs.Whole.{whole}

same_bool : (b c : Bool) → (b ≡ true → c ≡ true) → (c ≡ true → b ≡ true) → b ≡ c
same_bool true true up down = refl
same_bool true false up down = sym (up refl)
same_bool false true up down = down refl
same_bool false false up down = refl

up_to_at : (one two : ℕ → Bool) (n m : ℕ) → ((k : ℕ) → k < n → one k ≡ two k) → up_to one n m ≡ up_to two n m
up_to_at one two n m h = elim (cases_lt m n) [
  | inl below ↦ ap (λ b. cond (nat_lt m n) b (m == n)) (h m below)
  | inr above ↦ subst (λ b. cond b (one m) (m == n) ≡ cond b (two m) (m == n)) (sym (le-ltb m n above)) refl
]

pub same_up_to : (one two : ℕ → Bool) (n : ℕ) → ((m : ℕ) → m < n → one m ≡ two m) → up_to one n ≡ up_to two n
same_up_to one two n h = λ i m. up_to_at one two n m h i

-- with n kept, the first places up to n are those kept before and n
kept_at : (kept : ℕ → Bool) (n m : ℕ) → kept n ≡ true → up_to kept n m ≡ kept_of_first kept (suc n) m
kept_at kept n m e = elim (cases_lt m n) [
  | inl below ↦ subst (λ b. cond b (kept m) (m == n) ≡ (nat_lt m (suc n) && kept m)) (sym (lt-ltb m n below))
      (subst (λ b. kept m ≡ (b && kept m)) (sym (lt-ltb m (suc n) (omega (arith, below)))) refl)
  | inr above ↦ subst (λ b. cond b (kept m) (m == n) ≡ (nat_lt m (suc n) && kept m)) (sym (le-ltb m n above))
      (elim (cases_eq m n) [
        | inl same ↦ subst (λ b. b ≡ (nat_lt m (suc n) && kept m)) (sym (eq-eqb m n same))
            (subst (λ b. true ≡ (b && kept m)) (sym (lt-ltb m (suc n) (omega (arith, same))))
            (subst (λ k. true ≡ kept k) (sym same) (sym e)))
        | inr other ↦ subst (λ b. b ≡ (nat_lt m (suc n) && kept m)) (sym (ne_eqb m n other))
            (subst (λ b. false ≡ (b && kept m)) (sym (le-ltb m (suc n) (omega (arith, above, other)))) refl)
      ])
]

-- with n not kept, they are those kept before
pub passed_at : (kept : ℕ → Bool) (n m : ℕ) → kept n ≡ false → kept_of_first kept n m ≡ kept_of_first kept (suc n) m
passed_at kept n m e = elim (cases_lt m n) [
  | inl below ↦ subst (λ b. (b && kept m) ≡ (nat_lt m (suc n) && kept m)) (sym (lt-ltb m n below))
      (subst (λ b. kept m ≡ (b && kept m)) (sym (lt-ltb m (suc n) (omega (arith, below)))) refl)
  | inr above ↦ subst (λ b. (b && kept m) ≡ (nat_lt m (suc n) && kept m)) (sym (le-ltb m n above))
      (elim (cases_eq m n) [
        | inl same ↦ subst (λ b. false ≡ (b && kept m)) (sym (lt-ltb m (suc n) (omega (arith, same))))
            (subst (λ k. false ≡ kept k) (sym same) (sym e))
        | inr other ↦ subst (λ b. false ≡ (b && kept m)) (sym (le-ltb m (suc n) (omega (arith, above, other)))) refl
      ])
]

same_number : (n m : ℕ) → m < suc n → n ≤ m → n ≡ m
same_number n m lt above = omega (arith, lt, above)

none_at : (kept : ℕ → Bool) (m : ℕ) → false ≡ kept_of_first kept 0 m
none_at kept m = subst (λ b. false ≡ (b && kept m)) (sym (le-ltb m 0 (omega arith))) refl

-- the first of some answers are others
same_front : (xs ys : List Bool) → length xs ≤ length ys → ((m : ℕ) → m < length xs → kept_in xs m ≡ kept_in ys m)
    → take (length xs) ys ≡ xs
same_front [] ys le h = refl
same_front (x ∷ xs) [] le h = absurd (omega (arith, le))
same_front (x ∷ xs) (y ∷ ys) le h =
    ap₂ (λ b bs. b ∷ bs) (sym (h 0 (omega arith)))
    (same_front xs ys (omega (arith, le)) (λ m lt. h (suc m) (omega (arith, lt))))

pub bool_cases : (b : Bool) → (b ≡ true) ⊎ (b ≡ false)
bool_cases true = inl refl
bool_cases false = inr refl

module _ (def : Definition) (fresh : ℕ → Name) (f : Fragment) (IsGood : Fragment → Type 0) where
  pub grown : (most : ℕ) (kept : ℕ → Bool) → IsBlameUpTo IsGood def fresh f most kept
      → IsGood (opened def none_kept fresh f) → (n : ℕ) → n ≤ most → IsGood (opened def (kept_of_first kept n) fresh f)
  grown most kept a start zero le = subst (λ k. IsGood (opened def k fresh f)) (λ i m. none_at kept m i) start
  grown most kept a start (suc n) le = elim (bool_cases (kept n)) [
    | inl e ↦ subst (λ k. IsGood (opened def k fresh f)) (λ i m. kept_at kept n m e i) ((a n (omega (arith, le))).0 e)
    | inr e ↦ subst (λ k. IsGood (opened def k fresh f)) (λ i m. passed_at kept n m e i)
        (grown most kept a start n (omega (arith, le)))
  ]

  pub leaves : Leaves IsGood def f fresh
  leaves start kept a = grown (place_count def f) kept a start (place_count def f) (omega arith)

  pub kept_before : IsFalling IsGood def f fresh → IsGood f → (most : ℕ) (kept : ℕ → Bool)
      → IsBlameUpTo IsGood def fresh f most kept → (n : ℕ) → n ≤ most → (m : ℕ) → m < n → kept m ≡ true
  kept_before falls good most kept a zero le m lt = absurd (omega (arith, lt))
  kept_before falls good most kept a (suc n) le m lt =
      let inside : n < most = omega (arith, le) in
      let h = kept_before falls good most kept a n (omega (arith, le)) in
      elim (cases_lt m n) [
        | inl below ↦ h m below
        | inr above ↦ subst (λ k. kept k ≡ true) (same_number n m lt above) ((a n inside).1
            (subst (λ k. IsGood (opened def k fresh f)) (sym (same_up_to kept (λ k. true) n h))
            (subst (λ k. IsGood (opened def k fresh f)) (sym (λ i k. kept_at (λ j. true) n k refl i))
            (falls (λ k. true) (suc n) (subst IsGood (sym (whole def fresh f)) good)))))
      ]

  pub keeps_all : KeepsAll IsGood def f fresh
  keeps_all falls good kept a n lt = kept_before falls good (place_count def f) kept a (place_count def f) (omega arith) n lt

  pub needed : IsNeeded IsGood def f fresh
  needed kept a n lt lost good = true≢false (sym ((a n lt).1 good) ∙ lost)

  pub good_if_kept : IsGoodIfKept IsGood def f fresh
  good_if_kept start kept a all =
      let most = place_count def f in
      let first : (n : ℕ) → n < most → kept_of_first kept most n ≡ true =
      λ n lt. ap₂ (λ b c. b && c) (lt-ltb n most lt) (all n lt) in
      subst IsGood
      (of_places def f (kept_of_first kept most) (λ n. true) fresh fresh first (λ n lt. refl) ∙ whole def fresh f)
      (leaves start kept a)

  -- ---- one list of answers

  agree : (one two : List Bool) → AreAnswers IsGood def fresh f one → AreAnswers IsGood def fresh f two → (n : ℕ)
      → n ≤ length one → n ≤ length two → (m : ℕ) → m < n → kept_in one m ≡ kept_in two m
  agree one two a b zero le ge m lt = absurd (omega (arith, lt))
  agree one two a b (suc n) le ge m lt =
      let h = agree one two a b n (omega (arith, le)) (omega (arith, ge)) in
      let same = same_up_to (kept_in one) (kept_in two) n h in
      elim (cases_lt m n) [
        | inl below ↦ h m below
        | inr above ↦ subst (λ k. kept_in one k ≡ kept_in two k) (same_number n m lt above)
            (same_bool (kept_in one n) (kept_in two n)
            (λ t. (b.blame n (omega (arith, ge))).1
            (subst (λ k. IsGood (opened def k fresh f)) same ((a.blame n (omega (arith, le))).0 t)))
            (λ t. (a.blame n (omega (arith, le))).1
            (subst (λ k. IsGood (opened def k fresh f)) (sym same) ((b.blame n (omega (arith, ge))).0 t))))
      ]

  not_shorter : (one two : List Bool) → AreAllAnswers IsGood def fresh f one → AreAllAnswers IsGood def fresh f two
      → length one < length two → ⊥
  not_shorter one two a b lt = elim a.all [
    | inl e ↦ absurd (omega (arith, e, lt, b.answers.inside))
    | inr e ↦
        let le : length one ≤ length two = omega (arith, lt) in
        let same : take (length one) two ≡ one =
        same_front one two le (agree one two a.answers b.answers (length one) (omega arith) le) in
        let few = b.answers.fewer (length one) lt in
        let all = ap blamed_in same ∙ e in
        absurd (omega (arith, few, all))
  ]

  pub only : IsOne IsGood def f fresh
  only one two a b = elim (cases_lt (length one) (length two)) [
    | inl less ↦ absurd (not_shorter one two a b less)
    | inr more ↦ elim (cases_lt (length two) (length one)) [
      | inl less ↦ absurd (not_shorter two one b a less)
      | inr most ↦
          let le : length one ≤ length two = omega (arith, more, most) in
          sym (same_front one two le (agree one two a.answers b.answers (length one) (omega arith) le))
          ∙ take_all (length one) two (omega (arith, more, most))
    ]
  ]
