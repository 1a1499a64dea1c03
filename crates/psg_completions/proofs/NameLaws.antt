-- Names among lists.
use Rattle.std.proofs.Common.{◌≡◌, ◌⊎◌, inl, inr, Bool, true, false, cond, ◌||◌, List, [], ◌∷◌, ◌++◌, bytes_eq, ap, sym, ◌∙◌, subst, true≢false}
use Rattle.std.proofs.lemmas.Bool.{cases_Bool, or_cases, or_left, or_right}
use Rattle.psg_terms.proofs.DeclareLaws.{bytes_eq-same, bytes_eq-refl}
use Rattle.psg_grammar.specs.Keys.{Key}
use Rattle.psg_terms.specs.Names.{is_among}

-- the keys that pass the test
abbrev pub only : (Key → Bool) → List Key → List Key
only p [] = []
only p (n ∷ ns) = cond (p n) (n ∷ only p ns) (only p ns)

-- the keys without those of the other list
abbrev pub without : List Key → List Key → List Key
without [] gone = []
without (n ∷ ns) gone = cond (is_among gone n) (without ns gone) (n ∷ without ns gone)

pub among_one : (x : Key) → is_among (x ∷ []) x ≡ true
among_one x = ap (λ b. b || false) (bytes_eq-refl x)

pub among_left : (xs ys : List Key) (n : Key) → is_among xs n ≡ true → is_among (xs ++ ys) n ≡ true
among_left [] ys n e = absurd (true≢false (sym e))
among_left (x ∷ xs) ys n e = elim (or_cases (bytes_eq x n) (is_among xs n) e) [
  | inl h ↦ or_left (bytes_eq x n) (is_among (xs ++ ys) n) h
  | inr h ↦ or_right (bytes_eq x n) (is_among (xs ++ ys) n) (among_left xs ys n h)
]

pub among_right : (xs ys : List Key) (n : Key) → is_among ys n ≡ true → is_among (xs ++ ys) n ≡ true
among_right [] ys n e = e
among_right (x ∷ xs) ys n e = or_right (bytes_eq x n) (is_among (xs ++ ys) n) (among_right xs ys n e)

pub among_without : (xs gone : List Key) (n : Key) → is_among xs n ≡ true → is_among gone n ≡ false
    → is_among (without xs gone) n ≡ true
among_without [] gone n e h = e
among_without (x ∷ xs) gone n e h = elim (or_cases (bytes_eq x n) (is_among xs n) e) [
  | inl same ↦ here same
  | inr later ↦ elim (cases_Bool (is_among gone x)) [
    | inl g ↦ subst (λ b. is_among (cond b (without xs gone) (x ∷ without xs gone)) n ≡ true) (sym g)
        (among_without xs gone n later h)
    | inr g ↦ subst (λ b. is_among (cond b (without xs gone) (x ∷ without xs gone)) n ≡ true) (sym g)
        (or_right (bytes_eq x n) (is_among (without xs gone) n) (among_without xs gone n later h))
  ]
] where
  here : bytes_eq x n ≡ true → is_among (without (x ∷ xs) gone) n ≡ true
  here same =
      let is : x ≡ n = bytes_eq-same x n same in
      let kept : is_among gone x ≡ false = subst (λ y. is_among gone y ≡ false) (sym is) h in
      subst (λ b. is_among (cond b (without xs gone) (x ∷ without xs gone)) n ≡ true) (sym kept)
      (or_left (bytes_eq x n) (is_among (without xs gone) n) same)

pub none_both : (xs ys : List Key) (n : Key) → is_among xs n ≡ false → is_among ys n ≡ false
    → is_among (xs ++ ys) n ≡ false
none_both [] ys n a b = b
none_both (x ∷ xs) ys n a b = elim (cases_Bool (bytes_eq x n)) [
  | inl t ↦ absurd (true≢false (sym (ap (λ c. c || is_among xs n) t) ∙ a))
  | inr f ↦ ap (λ c. c || is_among (xs ++ ys) n) f ∙ none_both xs ys n (sym (ap (λ c. c || is_among xs n) f) ∙ a) b
]

pub among_parts : (xs ys : List Key) (m : Key) → is_among (xs ++ ys) m ≡ true
    → (is_among xs m ≡ true) ⊎ (is_among ys m ≡ true)
among_parts [] ys m e = inr e
among_parts (x ∷ xs) ys m e = elim (or_cases (bytes_eq x m) (is_among (xs ++ ys) m) e) [
  | inl a ↦ inl (or_left (bytes_eq x m) (is_among xs m) a)
  | inr a ↦ elim (among_parts xs ys m a) [
    | inl b ↦ inl (or_right (bytes_eq x m) (is_among xs m) b)
    | inr b ↦ inr b
  ]
]

pub none_left : (xs ys : List Key) (m : Key) → is_among (xs ++ ys) m ≡ false → is_among xs m ≡ false
none_left xs ys m e = elim (cases_Bool (is_among xs m)) [
  | inl t ↦ absurd (true≢false (sym (among_left xs ys m t) ∙ e))
  | inr f ↦ f
]

pub none_right : (xs ys : List Key) (m : Key) → is_among (xs ++ ys) m ≡ false → is_among ys m ≡ false
none_right xs ys m e = elim (cases_Bool (is_among ys m)) [
  | inl t ↦ absurd (true≢false (sym (among_right xs ys m t) ∙ e))
  | inr f ↦ f
]
