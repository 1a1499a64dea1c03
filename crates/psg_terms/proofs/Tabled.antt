-- The table of known variables.
use Rattle.std.proofs.Common.{◌≡◌, ◌≢◌, ◌⊎◌, inl, inr, ℕ, ◌+◌, ◌<◌, ◌≤◌, ◌==◌, ◌||◌, true, false, cond, if◌then◌else◌, zero, suc, Option, Some, List, [], ◌∷◌, ◌++◌, length, slice_get, get_or, refl, ap, ap₂, sym, ◌∙◌, arith}
use Rattle.std.proofs.Math.ListN.{replicate, set}
use Rattle.std.proofs.lemmas.Bool.{cases_Bool}
use Rattle.std.proofs.lemmas.Bool.Decides.{eqb_tells}
use Rattle.std.proofs.lemmas.List.{get_or-replicate, length-replicate, get_or-set_same, get_or-set_other, length-set}
use Rattle.std.proofs.lemmas.Option.{slice_get-get_or, slice_get_within, get_or_from_slice_get}
use Rattle.psg_terms.specs.Canonical.{Variable, same_variable, is_noted, noted}
use Rattle.psg_terms.specs.Renaming.{key, keys, place}
use Rattle.psg_terms.specs.Places.{one_more, first_with, IsTable, IsMarked}
use Rattle.psg_terms.specs.declared.canonical.Key.{Key}
use Rattle.psg_terms.proofs.RenamingLaws.{keys-append, keys-length, noted-new, place-end}
use Rattle.psg_terms.proofs.Variables.{same_variable-refl, same_variable-false}

none_more : (m : ℕ) → one_more m ≡ 0 → m ≡ 0
none_more zero e = refl
none_more (suc m) e = absurd (omega (arith, e))

some_more : (m p : ℕ) → one_more m ≡ suc p → (q : ℕ) × (m ≡ suc q) × (p ≡ suc q)
some_more zero p e = absurd (omega (arith, e))
some_more (suc q) p e = (q, refl, omega (arith, e))

-- what the first key has to do with the place
other_number : (s n : ℕ) (x : Key) → x.number ≢ n → same_variable (s, n) (key x) ≡ false
other_number s n x h = same_variable-false (s, n) (key x) (λ d. h (sym (ap (λ (v : Variable). v.1) d)))

first_is : (n : ℕ) (x : Key) (xs : List Key) → (x.number == n) ≡ true → first_with n (x ∷ xs) ≡ 1
first_is n x xs t = ap (λ b. cond b 1 (one_more (first_with n xs))) t

first_later : (n : ℕ) (x : Key) (xs : List Key) → (x.number == n) ≡ false → first_with n (x ∷ xs) ≡ one_more (first_with n xs)
first_later n x xs f = ap (λ b. cond b 1 (one_more (first_with n xs))) f

pub none_with : (order : List Key) (s n : ℕ) → first_with n order ≡ 0 → is_noted (s, n) (keys order) ≡ false
none_with [] s n e = refl
none_with (x ∷ xs) s n e = elim (eqb_tells x.number n) [
  | inl h ↦ (let z : 1 ≡ 0 = sym (first_is n x xs h.0) ∙ e in absurd (omega (arith, z)))
  | inr h ↦ (let rest = none_with xs s n (none_more (first_with n xs) (sym (first_later n x xs h.0) ∙ e)) in
      ap (λ b. b || is_noted (s, n) (keys xs)) (other_number s n x h.1) ∙ rest)
]

pub here_with : (order : List Key) (s n p : ℕ) (k : Key) → first_with n order ≡ suc p → slice_get order p ≡ Some k → k.sort.0 ≡ s → (is_noted (s, n) (keys order) ≡ true) × (p ≡ place (s, n) (keys order))
here_with [] s n p k e g d = absurd (omega (arith, e))
here_with (x ∷ xs) s n p k e g d = elim (eqb_tells x.number n) [
  | inl h ↦ (let z : 1 ≡ suc p = sym (first_is n x xs h.0) ∙ e in
      let at : p ≡ 0 = omega (arith, z) in
      let is : Some x ≡ Some k = ap (slice_get (x ∷ xs)) (sym at) ∙ g in
      let one : x ≡ k = cc in
      let same : same_variable (s, n) (key x) ≡ true = ap₂ (λ (a b : ℕ). same_variable (s, n) (a, b)) (ap (λ (y : Key). y.sort.0) one ∙ d) h.1 ∙ same_variable-refl (s, n) in (
        ap (λ b. b || is_noted (s, n) (keys xs)) same,
        at ∙ sym (ap (λ b. cond b 0 (place (s, n) (keys xs) + 1)) same),
      ))
  | inr h ↦ (let (q, eq, ep) = some_more (first_with n xs) p (sym (first_later n x xs h.0) ∙ e) in
      let rest = here_with xs s n q k eq (ap (slice_get (x ∷ xs)) (sym ep) ∙ g) d in
      let other = other_number s n x h.1 in
      let w = ap (λ b. cond b 0 (place (s, n) (keys xs) + 1)) other in (
        ap (λ b. b || is_noted (s, n) (keys xs)) other ∙ rest.0,
        omega (arith, ep, rest.1, w),
      ))
]

-- one key more
push_other : (order : List Key) (k : Key) (n : ℕ) → (k.number == n) ≡ false → first_with n (order ++ k ∷ []) ≡ first_with n order
push_other [] k n h = first_later n k [] h
push_other (x ∷ xs) k n h = ap (λ m. cond (x.number == n) 1 (one_more m)) (push_other xs k n h)

push_known : (order : List Key) (k : Key) (n : ℕ) → first_with n order ≢ 0 → first_with n (order ++ k ∷ []) ≡ first_with n order
push_known [] k n h = absurd (h refl)
push_known (x ∷ xs) k n h = elim (cases_Bool (x.number == n)) [
  | inl t ↦ first_is n x (xs ++ k ∷ []) t ∙ sym (first_is n x xs t)
  | inr f ↦ ap (λ m. cond (x.number == n) 1 (one_more m)) (push_known xs k n (λ z. h (first_later n x xs f ∙ ap one_more z)))
]

push_first : (order : List Key) (k : Key) (n : ℕ) → first_with n order ≡ 0 → (k.number == n) ≡ true → first_with n (order ++ k ∷ []) ≡ suc (length order)
push_first [] k n e t = first_is n k [] t
push_first (x ∷ xs) k n e t = elim (cases_Bool (x.number == n)) [
  | inl u ↦ (let z : 1 ≡ 0 = sym (first_is n x xs u) ∙ e in absurd (omega (arith, z)))
  | inr f ↦ (let rest = push_first xs k n (none_more (first_with n xs) (sym (first_later n x xs f) ∙ e)) t in
      let last : suc (suc (length xs)) ≡ suc (length (x ∷ xs)) = omega arith in
      first_later n x (xs ++ k ∷ []) f ∙ ap one_more rest ∙ last)
]

-- tables
pub table_begins : (size : ℕ) (table : List ℕ) (order : List Key) → table ≡ replicate size 0 → order ≡ [] → IsTable table order
table_begins size table order e d n l =
    let count = ap length e ∙ length-replicate size 0 in
    ap (λ t. get_or t n 0) e ∙ get_or-replicate size n 0 0 (omega (arith, l, count)) ∙ sym (ap (first_with n) d)

grows_same : (old : List ℕ) (order : List Key) (k : Key) → IsTable old order → (slice_get old k.number ≡ Some 0 → ⊥) → (n : ℕ) → n < length old → first_with n (order ++ k ∷ []) ≡ first_with n order
grows_same old order k h known n l = elim (eqb_tells k.number n) [
  | inl t ↦ push_known order k n (λ z. known (slice_get-get_or old k.number 0 (omega (arith, t.1, l)) ∙ ap (λ (m : ℕ). Some m) (ap (λ i. get_or old i 0) t.1 ∙ h n l ∙ z)))
  | inr f ↦ push_other order k n f.0
]

grows_set : (old : List ℕ) (order : List Key) (k : Key) (entry : ℕ) → IsTable old order → k.number < length old → get_or old k.number 0 ≡ 0 → entry ≡ length order + 1
    → (n : ℕ) → n < length old → get_or (set old k.number entry) n 0 ≡ first_with n (order ++ k ∷ [])
grows_set old order k entry h within free c n l = elim (eqb_tells k.number n) [
  | inl t ↦ (let at = get_or-set_same old k.number entry 0 within in
      let none : first_with n order ≡ 0 = sym (h n l) ∙ ap (λ i. get_or old i 0) (sym t.1) ∙ free in
      let last : entry ≡ suc (length order) = omega (arith, c) in
      ap (λ i. get_or (set old k.number entry) i 0) (sym t.1) ∙ at ∙ last ∙ sym (push_first order k n none t.0))
  | inr f ↦ get_or-set_other old k.number n entry 0 (λ e. f.1 (sym e)) ∙ h n l ∙ sym (push_other order k n f.0)
]

pub table_grows : (old new : List ℕ) (order after : List Key) (k : Key) (entry : ℕ) → IsTable old order → after ≡ order ++ k ∷ [] → entry ≡ length order + 1 → IsMarked k.number entry old new → IsTable new after
table_grows old new order after k entry h a c m = elim m [
  | inl (known, e) ↦ (λ n l.
      let within : n < length old = omega (arith, l, ap length e) in
      ap (λ t. get_or t n 0) e ∙ h n within ∙ sym (ap (first_with n) a ∙ grows_same old order k h known n within))
  | inr (free, e) ↦ (λ n l.
      let there : n < length old = omega (arith, l, ap length e, length-set old k.number entry) in
      ap (λ t. get_or t n 0) e ∙ grows_set old order k entry h (slice_get_within old k.number 0 free) (get_or_from_slice_get old k.number 0 0 free) c n there ∙ sym (ap (first_with n) a))
]

-- a key that is noted newly is the last one
pub noted_last : (order after : List Key) (k : Key) → after ≡ order ++ k ∷ [] → is_noted (key k) (keys order) ≡ false → (keys after ≡ noted (keys order) (key k)) × (length order ≡ place (key k) (keys after))
noted_last order after k e f =
    let grown : keys after ≡ keys order ++ key k ∷ [] = ap keys e ∙ keys-append order (k ∷ []) in (
      grown ∙ sym (noted-new (keys order) (key k) f),
      sym (ap (place (key k)) grown ∙ place-end (key k) (keys order) f ∙ keys-length order),
    )

-- a known key changes nothing
pub noted_again : (xs : List Variable) (x : Variable) → is_noted x xs ≡ true → xs ≡ noted xs x
noted_again xs x t = sym (ap (λ b. if b then xs else xs ++ x ∷ []) t)
