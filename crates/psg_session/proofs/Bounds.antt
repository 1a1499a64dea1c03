-- A saturating count that is not above a limit.
use Rattle.std.proofs.Common.{◌≡◌, ℕ, ◌<◌, ◌≤◌, ◌-◌, ◌^◌, min, refl, arith}

pub not_over : {count : ℕ} (n limit : ℕ) → count ≡ min n (2 ^ 64 - 1) → count ≤ limit → (limit < 2 ^ 63) → limit < n → ⊥
not_over {count} n limit e le small over = let big : 2 ^ 64 - 1 ≡ 18446744073709551615 = refl in omega (arith, e, le, small, over, big)
