-- How many variables a canonical row has, by the highest of their numbers.
use Rattle.std.proofs.Common.{◌≡◌, ◌⊎◌, ℕ, zero, suc, ◌+◌, ◌<◌, ◌≤◌, ◌||◌, max, Bool, true, false, List, [], ◌∷◌, drop, get_or, length, refl, ap, sym, ◌∙◌, inl, inr, arith}
use Rattle.psg_terms.specs.Terms.{Term, variable, symbol, apply}
use Rattle.psg_terms.specs.Signature.{Signature}
use Rattle.psg_terms.specs.Weight.{above_of}
use Rattle.psg_terms.specs.Canonical.{Variable, variables, variables_of, is_noted, same_variable, noted_all, first_occurrences, IsNumberedFrom, IsCanonical}
use Rattle.psg_terms.proofs.Lists.{drop_item}
use Rattle.psg_terms.proofs.Covers.{among-append}
use Rattle.psg_terms.proofs.RenamingLaws.{among-noted_all}
use Rattle.psg_terms.proofs.Unique.{Each, each-among, each-front, each-map, each-noted_all}
use Rattle.psg_terms.proofs.Variables.{same_variable-refl, true_false, variable_cases}

-- the highest of a number and of those above the variables of the terms
abbrev pub highest : ℕ → List Term → ℕ
highest n [] = n
highest n (t ∷ row) = highest (max n (above_of t)) row

or_true : (a b : Bool) → b ≡ true → (a || b) ≡ true
or_true true b h = refl
or_true false b h = h

or_left_true : (a b : Bool) → a ≡ true → (a || b) ≡ true
or_left_true a b h = ap (λ c. c || b) h

either : (a b : Bool) → (a || b) ≡ true → (a ≡ true) ⊎ (b ≡ true)
either true b h = inl refl
either false b h = inr h

-- ---- no variable is above

at_most : (m : ℕ) (t : Term) → Each (λ x. x.1 ≤ m) (variables t) → above_of t ≤ m + 1
at_most m (variable s n) (h, _) = omega (arith, h)
at_most m (symbol c) h = omega arith
at_most m (apply f a) h =
    let both = each-front (λ x. x.1 ≤ m) (variables f) (variables a) h in
    let one = at_most m f both.0 in
    let two = at_most m a both.1 in
    omega (arith, one, two)

all_at_most : (m n : ℕ) (row : List Term) → n ≤ m + 1 → Each (λ x. x.1 ≤ m) (variables_of row) → highest n row ≤ m + 1
all_at_most m n [] le h = le
all_at_most m n (t ∷ row) le h =
    let both = each-front (λ x. x.1 ≤ m) (variables t) (variables_of row) h in
    let one = at_most m t both.0 in
    all_at_most m (max n (above_of t)) row (omega (arith, one, le)) both.1

-- ---- each variable is below

is_below : (x : Variable) (t : Term) → is_noted x (variables t) ≡ true → x.1 < above_of t
is_below x (variable s n) h = elim (variable_cases x (s, n)) [
  | inl e ↦ (let d : x.1 ≡ n = ap (λ (v : Variable). v.1) e in omega (arith, d))
  | inr e ↦ absurd (true_false (sym (sym (ap (λ b. b || false) e) ∙ h)))
]
is_below x (symbol c) h = absurd (true_false (sym h))
is_below x (apply f a) h = elim (either (is_noted x (variables f)) (is_noted x (variables a)) (sym (among-append x (variables f) (variables a)) ∙ h)) [
  | inl e ↦ (let k = is_below x f e in omega (arith, k))
  | inr e ↦ (let k = is_below x a e in omega (arith, k))
]

never_lower : (n : ℕ) (row : List Term) → n ≤ highest n row
never_lower n [] = omega arith
never_lower n (t ∷ row) = let k = never_lower (max n (above_of t)) row in omega (arith, k)

all_below : (x : Variable) (n : ℕ) (row : List Term) → is_noted x (variables_of row) ≡ true → x.1 < highest n row
all_below x n [] h = absurd (true_false (sym h))
all_below x n (t ∷ row) h = elim (either (is_noted x (variables t)) (is_noted x (variables_of row)) (sym (among-append x (variables t) (variables_of row)) ∙ h)) [
  | inl e ↦ (let k = is_below x t e in let l = never_lower (max n (above_of t)) row in omega (arith, k, l))
  | inr e ↦ all_below x (max n (above_of t)) row e
]

-- ---- the numbers of a canonical row

self_among : (xs : List Variable) → Each (λ y. is_noted y xs ≡ true) xs
self_among [] = tt
self_among (x ∷ xs) = (
  or_left_true (same_variable x x) (is_noted x xs) (same_variable-refl x),
  each-map (λ y. is_noted y xs ≡ true) (λ y. is_noted y (x ∷ xs) ≡ true) (λ y h. or_true (same_variable y x) (is_noted y xs) h) xs (self_among xs),
)

noted_back : (x : Variable) (xs : List Variable) → is_noted x (noted_all [] xs) ≡ true → is_noted x xs ≡ true
noted_back x xs h = each-among (λ y. is_noted y xs ≡ true) x (noted_all [] xs) (each-noted_all (λ y. is_noted y xs ≡ true) [] xs tt (self_among xs)) h

-- there is one with the last number
last_number : (n : ℕ) (xs : List Variable) → IsNumberedFrom n xs → 1 ≤ length xs → (x : Variable) × (is_noted x xs ≡ true) × (x.1 + 1 ≡ n + length xs)
last_number n [] h one = absurd (omega (arith, one))
last_number n (x ∷ []) (e, h) one = (x, or_left_true (same_variable x x) false (same_variable-refl x), omega (arith, e))
last_number n (x ∷ (y ∷ xs)) (e, h) one =
    let (z, at, is) = last_number (n + 1) (y ∷ xs) h (omega arith) in
    (z, or_true (same_variable z x) (is_noted z (y ∷ xs)) at, omega (arith, is))

number_within : (n m : ℕ) (xs : List Variable) → IsNumberedFrom n xs → n + length xs ≤ m + 1 → Each (λ x. x.1 ≤ m) xs
number_within n m [] h le = tt
number_within n m (x ∷ xs) (e, h) le = (omega (arith, e, le), number_within (n + 1) m xs h (omega (arith, le)))

-- where the variables of the row are numbered from 1 on, the highest number counts them
pub highest_counts : (sig : Signature) (row : List Term) → IsCanonical sig row → highest 1 row ≡ length (first_occurrences row) + 1
highest_counts sig row canonical =
    let known = first_occurrences row in
    let most = all_at_most (length known) 1 row (omega arith) (each-weaken (number_within 1 (length known) known canonical.numbered (omega arith))) in
    elim (some_or_none (length known)) [
      | inl none ↦ (let least = never_lower 1 row in omega (arith, most, least, none))
      | inr some ↦ (let (x, at, is) = last_number 1 known canonical.numbered some in
          let least = all_below x 1 row (noted_back x (variables_of row) at) in
          omega (arith, most, least, is))
    ]
  where
    some_or_none : (n : ℕ) → (n ≡ 0) ⊎ (1 ≤ n)
    some_or_none zero = inl refl
    some_or_none (suc n) = inr (omega arith)

    each-weaken : Each (λ x. x.1 ≤ length (first_occurrences row)) (first_occurrences row) → Each (λ x. x.1 ≤ length (first_occurrences row)) (variables_of row)
    each-weaken h =
        each-map (λ x. is_noted x (first_occurrences row) ≡ true) (λ x. x.1 ≤ length (first_occurrences row))
        (λ x at. each-among (λ x. x.1 ≤ length (first_occurrences row)) x (first_occurrences row) h at) (variables_of row)
        (among-noted_all [] (variables_of row))

pub highest_next : (row : List Term) (i : ℕ) (t : Term) (now new whole : ℕ) → i < length row → t ≡ get_or row i t → new ≡ max now (above_of t) → highest now (drop i row) ≡ whole → highest new (drop (i + 1) row) ≡ whole
highest_next row i t now new whole lt at is h = ap (λ n. highest n (drop (i + 1) row)) is ∙ ap (highest now) (sym (drop_item row i t lt at)) ∙ h

pub highest_end : (row : List Term) (i now whole : ℕ) → length row ≤ i → highest now (drop i row) ≡ whole → now ≡ whole
highest_end row i now whole le h = ap (highest now) (sym (none row i le)) ∙ h
  where
    none : (xs : List Term) (n : ℕ) → length xs ≤ n → drop n xs ≡ []
    none [] zero l = refl
    none [] (suc n) l = refl
    none (x ∷ xs) zero l = absurd (omega (arith, l))
    none (x ∷ xs) (suc n) l = none xs n (omega (arith, l))
