-- Terms and columns that are equal for all values of their variables, or for none.
use Rattle.std.specs.Prelude.{◌≡◌, ◌<◌, ◌∷◌, ℕ, All, Bool, true, false, List, [], map}
use Rattle.psg_terms.specs.Terms.{Term, variable}
use Rattle.psg_terms.specs.Instances.{Substitution, substitute}
use Rattle.psg_unify.specs.Pairs.{Pair as Columns, AgreeOn}

-- the two terms, each with variables of its own, are equal for all values, or for none
abbrev pub IsSettled : Term → Term → Bool → Type 0
IsSettled a b true = (f g : Substitution) → substitute f a ≡ substitute g b
IsSettled a b false = (f g : Substitution) → substitute f a ≡ substitute g b → ⊥

-- the two rows agree on the pairs for all values, or for none
abbrev pub AreSettled : List Term → List Term → List Columns → Bool → Type 0
AreSettled left right pairs true = (f g : Substitution)
    → AgreeOn pairs (map (substitute f) left) (map (substitute g) right)
AreSettled left right pairs false = (f g : Substitution)
    → AgreeOn pairs (map (substitute f) left) (map (substitute g) right) → ⊥

-- the right row is one variable, with which the one pair is, and all kept columns are of the left row
abbrev pub IsAnyValue : List Term → List Columns → List ℕ → ℕ → Type 0
IsAnyValue right pairs keep width = (s : ℕ) × (n : ℕ) × (i : ℕ) × (right ≡ variable s n ∷ []) × (pairs ≡ (i, 0) ∷ [])
    × All (λ k. k < width) keep
