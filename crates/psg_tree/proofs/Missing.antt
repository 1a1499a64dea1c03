-- How many numbers below a bound are not in a list.
use Rattle.std.proofs.Common.{◌≡◌, inl, inr, ℕ, zero, suc, ◌+◌, ◌<◌, ◌≤◌, ◌==◌, ◌||◌, Bool, true, false, cond, List, ◌∷◌, ap, sym, ◌∙◌, arith}
use Rattle.std.proofs.lemmas.Bool.Decides.{eqb_tells}
use Rattle.psg_tree.specs.Reaching.{is_in}

pub missing : ℕ → List ℕ → ℕ
missing zero found = 0
missing (suc n) found = missing n found + cond (is_in n found) 0 1

-- one more number is found
least : (a b : Bool) → cond (a || b) 0 1 ≤ cond b 0 1
least true true = omega arith
least true false = omega arith
least false true = omega arith
least false false = omega arith

fewer : (n p : ℕ) (found : List ℕ) → missing n (p ∷ found) ≤ missing n found
unfolding missing
fewer zero p found = omega arith
fewer (suc n) p found = omega (arith, fewer n p found, least (p == n) (is_in n found))

pub missing_falls : (n p : ℕ) (found : List ℕ) → p < n → is_in p found ≡ false → missing n (p ∷ found) < missing n found
unfolding missing
missing_falls zero p found h e = absurd (omega (arith, h))
missing_falls (suc n) p found h e =
    elim (eqb_tells p n) [
      | inl q ↦
          let new : is_in n found ≡ false = ap (λ m. is_in m found) (sym q.1) ∙ e in
          let a : cond {A = ℕ} ((p == n) || is_in n found) 0 1 ≡ 0 = ap (λ b. cond {A = ℕ} (b || is_in n found) 0 1) q.0 in
          let b : cond {A = ℕ} (is_in n found) 0 1 ≡ 1 = ap (λ b. cond {A = ℕ} b 0 1) new in
          omega (arith, fewer n p found, a, b)
      | inr q ↦ omega (arith, missing_falls n p found (omega (arith, h, q.1)) e, least (p == n) (is_in n found))
    ]
