-- Numbers that 32 bits do not hold.
use Rattle.std.proofs.Common.{inl, inr, ℕ, ◌+◌, ◌*◌, ◌^◌, ◌<◌, ◌≤◌, max, arith}
use Rattle.std.proofs.Math.Nat.{le-max_left, le-max_right}
use Rattle.std.proofs.lemmas.Bool.{cases_lt}
use Rattle.std.proofs.lemmas.Nat.{mul-lt}

pub large_sum : (a b : ℕ) → 2 ^ 64 ≤ a + b → 2 ^ 32 ≤ max a b + 1
large_sum a b h = let l = le-max_left a b in let r = le-max_right a b in omega (arith, h, l, r)

pub large_product : (a b : ℕ) → 2 ^ 64 ≤ a * b → 2 ^ 32 ≤ max a b + 1
large_product a b h = elim (cases_lt (max a b + 1) (2 ^ 32)) [
  | inl less ↦ (
      let l = le-max_left a b in
      let r = le-max_right a b in
      let x : a < 2 ^ 32 = omega (arith, less, l) in
      let y : b < 2 ^ 32 = omega (arith, less, r) in
      let small : a * b < 2 ^ 32 * 2 ^ 32 = mul-lt a b (2 ^ 32) (2 ^ 32) x y in
      absurd (omega (arith, h, small)))
  | inr more ↦ more
]
