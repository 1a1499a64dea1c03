-- The first of two numbers for which something fails, in the order of pairs.
use Rattle.std.specs.Prelude.{ℕ, ◌≡◌, ◌⊎◌, ◌<◌, Option, MatchOption}

-- it holds of all pairs, or fails for this one and holds of all pairs before it
abbrev pub FindsPair : (ℕ → ℕ → Type 0) → Option (ℕ × ℕ) → Type 0
FindsPair Holds o = MatchOption o ((n k : ℕ) → Holds n k)
    (λ x. (Holds x.0 x.1 → ⊥) × ((m j : ℕ) → (m < x.0) ⊎ ((m ≡ x.0) × (j < x.1)) → Holds m j))

-- it holds of all numbers, or fails for this one and holds of all numbers before it
abbrev pub Finds : (ℕ → Type 0) → Option ℕ → Type 0
Finds Holds o = MatchOption o ((n : ℕ) → Holds n) (λ n. (Holds n → ⊥) × ((m : ℕ) → m < n → Holds m))
