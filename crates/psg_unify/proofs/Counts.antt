-- Numbers that pass a test are counted.
use Rattle.std.proofs.Common.{◌≡◌, inl, inr, ℕ, zero, suc, ◌<◌, ◌≤◌, ◌==◌, Bool, true, false, cond, ap, refl, subst, arith}
use Rattle.std.proofs.lemmas.Bool.{eqb-true, eqb-false, cases_Bool}
use Rattle.psg_unify.specs.Counting.{count_below}

one_if : (b c : Bool) → b ≡ c → ◌≡◌ {A = ℕ} (cond b 1 0) (cond c 1 0)
one_if b c e = ap (λ (x : Bool). cond x 1 0) e

pub count_most : (n : ℕ) (p : ℕ → Bool) → count_below n p ≤ n
count_most zero p = omega arith
count_most (suc n) p = (let h = count_most n p in elim (cases_Bool (p n)) [
  | inl t ↦ (let e = one_if (p n) true t in omega (arith, h, e))
  | inr f ↦ (let e = one_if (p n) false f in omega (arith, h, e))
])

-- where fewer pass, they are no more
pub count_fewer : (n : ℕ) (p q : ℕ → Bool) → ((k : ℕ) → k < n → q k ≡ true → p k ≡ true) → count_below n q ≤ count_below n p
count_fewer zero p q h = omega arith
count_fewer (suc n) p q h = (let rest = count_fewer n p q (λ k l. h k (omega (arith, l))) in elim (cases_Bool (q n)) [
  | inl t ↦ (
      let a = one_if (q n) true t in
      let b = one_if (p n) true (h n (omega arith) t) in
      omega (arith, rest, a, b))
  | inr f ↦ (let a = one_if (q n) false f in omega (arith, rest, a))
])

-- and where one passes no longer, they are fewer
pub count_less : (n : ℕ) (p q : ℕ → Bool) → ((k : ℕ) → k < n → q k ≡ true → p k ≡ true) → (j : ℕ) → j < n → p j ≡ true → q j ≡ false → count_below n q < count_below n p
count_less zero p q h j l t f = absurd (omega (arith, l))
count_less (suc n) p q h j l t f = elim (cases_Bool (j == n)) [
  | inl e ↦ (
      let same = eqb-true j n e in
      let a = one_if (p n) true (subst (λ k. p k ≡ true) same t) in
      let b = one_if (q n) false (subst (λ k. q k ≡ false) same f) in
      let rest = count_fewer n p q (λ k m. h k (omega (arith, m))) in
      omega (arith, rest, a, b))
  | inr e ↦ (
      let other = eqb-false j n e in
      let rest = count_less n p q (λ k m. h k (omega (arith, m))) j (omega (arith, l, other)) t f in
      elim (cases_Bool (q n)) [
        | inl u ↦ (
            let a = one_if (q n) true u in
            let b = one_if (p n) true (h n (omega arith) u) in
            omega (arith, rest, a, b))
        | inr u ↦ (let a = one_if (q n) false u in omega (arith, rest, a))
      ])
]

-- one that passes is counted
pub count_some : (n : ℕ) (p : ℕ → Bool) (j : ℕ) → j < n → p j ≡ true → 1 ≤ count_below n p
count_some n p j l t = (let less = count_less n p (λ _. false) (λ k m e. absurd (never e)) j l t refl in omega (arith, less)) where
  never : false ≡ true → ⊥
  never e = cc
