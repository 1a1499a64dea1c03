-- Lists of numbers that rise.
use Rattle.std.proofs.Common.{◌≡◌, ◌⊎◌, inl, inr, ℕ, zero, suc, ◌+◌, ◌<◌, ◌≤◌, List, ◌∷◌, length, get_or, Contains, refl, sym, subst, arith, not-suc-le-zero, insert}
use Rattle.std.specs.List.Sorted.{IsStrictlyIncreasing}
use Rattle.std.proofs.lemmas.Bool.{cases_lt, cases_eq}
use Rattle.std.proofs.lemmas.List.Elements.{Contains-get_or}
use Rattle.std.proofs.lemmas.List.Kept.{AllPairs-from_increasing}
use Rattle.std.proofs.lemmas.List.Edits.{length-insert, get_or-insert_below, get_or-insert_at, get_or-insert_above}
use Rattle.std.proofs.lemmas.List.Sorted.{IsPermutation-insert, IsPermutation-sym, Contains-permutation}

pub rising : (xs : List ℕ) → IsStrictlyIncreasing xs → (i j : ℕ) → i ≤ j → j < length xs → get_or xs i 0 ≤ get_or xs j 0
rising xs h i j le lt = elim (cases_eq i j) [
  | inl e ↦ subst (λ k. get_or xs i 0 ≤ get_or xs k 0) e (omega arith)
  | inr e ↦
      let less : i < j = grind arith in
      let f : get_or xs i 0 < get_or xs j 0 = AllPairs-from_increasing xs h i j 0 less lt in
      omega (arith, f)
]

-- ---- a number put in at its place

pub increasing-insert : (xs : List ℕ) (i s : ℕ) → IsStrictlyIncreasing xs → i ≤ length xs → ((k : ℕ) → k < i → get_or xs k 0 < s) → ((k : ℕ) → i ≤ k → k < length xs → s < get_or xs k 0) → IsStrictlyIncreasing (insert xs i s)
increasing-insert xs i s h le below above k lt =
    let size : length (insert xs i s) ≡ length xs + 1 = length-insert xs i s le in
    elim (cases_lt (k + 1) i) [
      | inl before ↦
          let p : get_or (insert xs i s) k 0 ≡ get_or xs k 0 = get_or-insert_below xs i s 0 k (omega (arith, before)) le in
          let q : get_or (insert xs i s) (k + 1) 0 ≡ get_or xs (k + 1) 0 = get_or-insert_below xs i s 0 (k + 1) before le in
          let r : get_or xs k 0 < get_or xs (k + 1) 0 = h k (omega (arith, before, le)) in
          omega (arith, p, q, r)
      | inr behind ↦ elim (cases_lt k i) [
        | inl before ↦
            let same : i ≡ k + 1 = omega (arith, before, behind) in
            let p : get_or (insert xs i s) k 0 ≡ get_or xs k 0 = get_or-insert_below xs i s 0 k before le in
            let q : get_or (insert xs i s) (k + 1) 0 ≡ s = subst (λ j. get_or (insert xs i s) j 0 ≡ s) same (get_or-insert_at xs i s 0 le) in
            let r : get_or xs k 0 < s = below k before in
            omega (arith, p, q, r)
        | inr here ↦ elim (cases_lt i k) [
          | inl after ↦ past k after here lt
          | inr not_after ↦
              let same : i ≡ k = omega (arith, here, not_after) in
              let p : get_or (insert xs i s) k 0 ≡ s = subst (λ j. get_or (insert xs i s) j 0 ≡ s) same (get_or-insert_at xs i s 0 le) in
              let q : get_or (insert xs i s) (k + 1) 0 ≡ get_or xs k 0 = get_or-insert_above xs i s 0 k here le in
              let r : s < get_or xs k 0 = above k here (omega (arith, size, lt)) in
              omega (arith, p, q, r)
        ]
      ]
    ] where
      past : (k : ℕ) → i < k → i ≤ k → k + 1 < length (insert xs i s) → get_or (insert xs i s) k 0 < get_or (insert xs i s) (k + 1) 0
      past zero after here lt = absurd (not-suc-le-zero after)
      past (suc j) after here lt =
          let size : length (insert xs i s) ≡ length xs + 1 = length-insert xs i s le in
          let up : suc j ≡ j + 1 = omega arith in
          let p : get_or (insert xs i s) (suc j) 0 ≡ get_or xs j 0 = subst (λ k. get_or (insert xs i s) k 0 ≡ get_or xs j 0) (sym up) (get_or-insert_above xs i s 0 j (omega (arith, after)) le) in
          let q : get_or (insert xs i s) (suc j + 1) 0 ≡ get_or xs (suc j) 0 = get_or-insert_above xs i s 0 (suc j) here le in
          let r : get_or xs j 0 < get_or xs (suc j) 0 = subst (λ k. get_or xs j 0 < get_or xs k 0) (sym up) (h j (omega (arith, size, lt))) in
          omega (arith, p, q, r)

contains_cons : (x : ℕ) (xs : List ℕ) (t : ℕ) → Contains (x ∷ xs) t → Contains xs t ⊎ (t ≡ x)
contains_cons x xs t (zero, lt, e) = inr (sym e)
contains_cons x xs t (suc k, lt, e) = inl (k, omega arith, e)

pub contains_insert_cases : (xs : List ℕ) (i s t : ℕ) → Contains (insert xs i s) t → Contains xs t ⊎ (t ≡ s)
contains_insert_cases xs i s t h = contains_cons s xs t (Contains-permutation (insert xs i s) (s ∷ xs) t (IsPermutation-sym (s ∷ xs) (insert xs i s) (IsPermutation-insert xs i s)) h)

pub contains_insert_old : (xs : List ℕ) (i s t : ℕ) → Contains xs t → Contains (insert xs i s) t
contains_insert_old xs i s t (k, lt, e) = Contains-permutation (s ∷ xs) (insert xs i s) t (IsPermutation-insert xs i s) (suc k, omega arith, e)

pub contains_insert_new : (xs : List ℕ) (i s : ℕ) → Contains (insert xs i s) s
contains_insert_new xs i s = Contains-permutation (s ∷ xs) (insert xs i s) s (IsPermutation-insert xs i s) (zero, omega arith, refl)

-- ---- how many there are

at_least : (xs : List ℕ) → IsStrictlyIncreasing xs → (k : ℕ) → k < length xs → k ≤ get_or xs k 0
at_least xs h zero lt = omega arith
at_least xs h (suc k) lt =
    let low : k ≤ get_or xs k 0 = at_least xs h k (omega (arith, lt)) in
    let up : suc k ≡ k + 1 = omega arith in
    let r : get_or xs k 0 < get_or xs (suc k) 0 = subst (λ j. get_or xs k 0 < get_or xs j 0) (sym up) (h k (omega (arith, lt))) in
    omega (arith, low, r)

-- numbers below n that rise are at most n
pub length-increasing : (xs : List ℕ) (n : ℕ) → IsStrictlyIncreasing xs → ((t : ℕ) → Contains xs t → t < n) → length xs ≤ n
length-increasing xs n h below = elim (cases_lt n (length xs)) [
  | inl more ↦
      let low : n ≤ get_or xs n 0 = at_least xs h n more in
      let high : get_or xs n 0 < n = below (get_or xs n 0) (Contains-get_or xs n 0 more) in
      absurd (omega (arith, low, high))
  | inr few ↦ few
]
