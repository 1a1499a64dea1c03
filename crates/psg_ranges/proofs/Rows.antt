-- Rows of brackets.
use Rattle.std.proofs.Common.{◌≡◌, ℕ, zero, suc, ◌+◌, ◌-◌, ◌≤◌, ◌<◌, cond, Bool, true, false, List, [], ◌∷◌, ◌++◌, length, drop, slice_get, refl, sym, ap, ◌∙◌, subst, arith}
use Rattle.std.proofs.lemmas.Bool.{false≢true}
use Rattle.std.specs.List.{AllByRecursion}
use Rattle.psg_class.specs.Terminals.{Token}
use Rattle.psg_ranges.specs.Brackets.{is_open, is_close, is_open_at, is_close_at, closes_first, opening, closing}

-- ---- one step

pub opening_at : (ts : List Token) (k : ℕ) → opening (drop k ts) ≡ cond (is_open_at (slice_get ts k)) (suc (opening (drop (suc k) ts))) 0
opening_at [] zero = refl
opening_at [] (suc k) = refl
opening_at (t ∷ ts) zero = refl
opening_at (t ∷ ts) (suc k) = opening_at ts k

pub closing_at : (n : ℕ) (ts : List Token) (k : ℕ) → closing (suc n) (drop k ts) ≡ cond (is_close_at (slice_get ts k)) (suc (closing n (drop (suc k) ts))) 0
closing_at n [] zero = refl
closing_at n [] (suc k) = refl
closing_at n (t ∷ ts) zero = refl
closing_at n (t ∷ ts) (suc k) = closing_at n ts k

pub open_within : (ts : List Token) (k : ℕ) → is_open_at (slice_get ts k) ≡ true → k < length ts
open_within [] zero h = absurd (false≢true h)
open_within [] (suc k) h = absurd (false≢true h)
open_within (t ∷ ts) zero h = omega arith
open_within (t ∷ ts) (suc k) h = omega (arith, open_within ts k h)

pub close_within : (ts : List Token) (k : ℕ) → is_close_at (slice_get ts k) ≡ true → k < length ts
close_within [] zero h = absurd (false≢true h)
close_within [] (suc k) h = absurd (false≢true h)
close_within (t ∷ ts) zero h = omega arith
close_within (t ∷ ts) (suc k) h = omega (arith, close_within ts k h)

pub opening_next : (ts : List Token) (k : ℕ) → is_open_at (slice_get ts k) ≡ true → (k + 1) + opening (drop (k + 1) ts) ≡ k + opening (drop k ts)
opening_next ts k h =
    let e : opening (drop k ts) ≡ suc (opening (drop (suc k) ts)) = opening_at ts k ∙ ap (λ b. cond b (suc (opening (drop (suc k) ts))) 0) h in
    let s : suc k ≡ k + 1 = omega arith in
    let f : opening (drop (suc k) ts) ≡ opening (drop (k + 1) ts) = ap (λ n. opening (drop n ts)) s in
    omega (arith, e, f)

pub opening_end : (ts : List Token) (k : ℕ) → is_open_at (slice_get ts k) ≡ false → opening (drop k ts) ≡ 0
opening_end ts k h = opening_at ts k ∙ ap (λ b. cond b (suc (opening (drop (suc k) ts))) 0) h

pub closing_next : (n : ℕ) (ts : List Token) (k : ℕ) → 0 < n → is_close_at (slice_get ts k) ≡ true → suc (closing (n - 1) (drop (k + 1) ts)) ≡ closing n (drop k ts)
closing_next zero ts k lt h = absurd (omega (arith, lt))
closing_next (suc n) ts k lt h =
    let e : closing (suc n) (drop k ts) ≡ suc (closing n (drop (suc k) ts)) = closing_at n ts k ∙ ap (λ b. cond b (suc (closing n (drop (suc k) ts))) 0) h in
    let s : suc k ≡ k + 1 = omega arith in
    let m : n ≡ suc n - 1 = omega arith in
    sym (e ∙ ap (λ i. suc (closing n (drop i ts))) s ∙ ap (λ i. suc (closing i (drop (k + 1) ts))) m)

pub closing_end : (n : ℕ) (ts : List Token) (k : ℕ) → is_close_at (slice_get ts k) ≡ false → closing n (drop k ts) ≡ 0
closing_end zero ts k h = refl
closing_end (suc n) ts k h = closing_at n ts k ∙ ap (λ b. cond b (suc (closing n (drop (suc k) ts))) 0) h

-- ---- whole rows

abbrev pub AllOpen : List Token → Type 0
AllOpen us = AllByRecursion (λ (t : Token). is_open t ≡ true) us

abbrev pub AllClose : List Token → Type 0
AllClose us = AllByRecursion (λ (t : Token). is_close t ≡ true) us

-- tokens of which the first opens no bracket
abbrev pub OpensNone : List Token → Type 0
OpensNone ts = opening ts ≡ 0

pub opening_row : (us ts : List Token) → AllOpen us → OpensNone ts → (k : ℕ) → k ≤ length us → k + opening (drop k (us ++ ts)) ≡ length us
opening_row [] ts a e zero h = omega (arith, e)
opening_row [] ts a e (suc k) h = absurd (omega (arith, h))
opening_row (u ∷ us) ts a e zero h =
    let r = opening_row us ts a.1 e zero (omega arith) in
    let f : opening (u ∷ (us ++ ts)) ≡ suc (opening (us ++ ts)) = ap (λ b. cond b (suc (opening (us ++ ts))) 0) a.0 in
    omega (arith, r, f)
opening_row (u ∷ us) ts a e (suc k) h = omega (arith, opening_row us ts a.1 e k (omega (arith, h)))

-- as many closing brackets as are there, where no more are looked for or no more come
pub closing_row : (us ts : List Token) (n : ℕ) → AllClose us → length us ≤ n → closing (n - length us) ts ≡ 0 → closing n (us ++ ts) ≡ length us
closing_row [] ts n a h e = let z : n - 0 ≡ n = omega arith in subst (λ m. closing m ts ≡ 0) z e
closing_row (u ∷ us) ts zero a h e = absurd (omega (arith, h))
closing_row (u ∷ us) ts (suc n) a h e =
    let z : suc n - length (u ∷ us) ≡ n - length us = omega arith in
    ap (λ b. cond b (suc (closing n (us ++ ts))) 0) a.0 ∙ ap suc (closing_row us ts n a.1 (omega (arith, h)) (subst (λ m. closing m ts ≡ 0) z e))

pub closing_none : (n : ℕ) (ts : List Token) → closes_first ts ≡ false → closing n ts ≡ 0
closing_none zero ts h = refl
closing_none (suc n) [] h = refl
closing_none (suc n) (t ∷ ts) h = ap (λ b. cond b (suc (closing n ts)) 0) h

-- ---- the walk over closing brackets

-- from these places on, as many are closed as from the first ones on, less those that are passed
pub record Taking (ts : List Token) (first start0 end0 start end : ℕ) : Type 0 where
  pub moved : start + end ≡ start0 + end0
  pub further : end0 ≤ end
  pub same : end + closing (start - first) (drop end ts) ≡ end0 + closing (start0 - first) (drop end0 ts)

pub taking_init : (ts : List Token) (first start end : ℕ) → Taking ts first start end start end
taking_init ts first start end = record { moved = refl; further = omega arith; same = refl }

pub taking_next : (ts : List Token) (first start0 end0 start end next after : ℕ) → Taking ts first start0 end0 start end → first < start → is_close_at (slice_get ts end) ≡ true
    → next ≡ start - 1 → after ≡ end + 1 → Taking ts first start0 end0 next after
taking_next ts first start0 end0 start end next after x lt h n a =
    let e : suc (closing (start - first - 1) (drop (end + 1) ts)) ≡ closing (start - first) (drop end ts) = closing_next (start - first) ts end (omega (arith, lt)) h in
    let f : closing (start - first - 1) (drop (end + 1) ts) ≡ closing (next - first) (drop after ts) =
    ap (λ k. closing k (drop (end + 1) ts)) (omega (arith, n, lt)) ∙ ap (λ k. closing (next - first) (drop k ts)) (sym a) in
    record { moved = omega (arith, x.moved, n, a, lt); further = omega (arith, x.further, a); same = omega (arith, x.same, a, e, f) }

-- where no bracket is closed any more
pub taken : (ts : List Token) (first start0 end0 start end : ℕ) → Taking ts first start0 end0 start end → closing (start - first) (drop end ts) ≡ 0
    → (start ≡ start0 - closing (start0 - first) (drop end0 ts)) × (end ≡ end0 + closing (start0 - first) (drop end0 ts))
taken ts first start0 end0 start end x none = (omega (arith, x.moved, x.further, x.same, none), omega (arith, x.same, none))

pub taken_all : (ts : List Token) (first start0 end0 start end : ℕ) → Taking ts first start0 end0 start end → start ≤ first
    → (start ≡ start0 - closing (start0 - first) (drop end0 ts)) × (end ≡ end0 + closing (start0 - first) (drop end0 ts))
taken_all ts first start0 end0 start end x le = let z : start - first ≡ 0 = omega (arith, le) in taken ts first start0 end0 start end x (ap (λ k. closing k (drop end ts)) z)

-- ---- what the tests say

pub unbracketed : (b : Bool) (at n : ℕ) → b ≡ false → at ≡ at + cond b n 0
unbracketed true at n h = absurd (false≢true (sym h))
unbracketed false at n h = omega arith

pub after_opened : (b : Bool) (ts : List Token) (at next : ℕ) → b ≡ true → next + opening (drop next ts) ≡ at + opening (drop at ts) → is_open_at (slice_get ts next) ≡ false
    → next ≡ at + cond b (opening (drop at ts)) 0
after_opened true ts at next h x none = omega (arith, x, opening_end ts next none)
after_opened false ts at next h x none = absurd (false≢true h)
