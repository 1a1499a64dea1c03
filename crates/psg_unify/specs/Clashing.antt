-- Columns of two rows that no values make equal.
use Rattle.std.specs.Prelude.{ℕ, ◌≡◌, List, map, slice_get}
use Rattle.psg_terms.specs.Terms.{Term, symbol, applied}
use Rattle.psg_terms.specs.Instances.{Substitution, substitute}
use Rattle.psg_unify.specs.Pairs.{Pair}

-- the term is the constructor of this number with arguments
abbrev pub IsHeadOf : Term → ℕ → Type 0
IsHeadOf t c = (args : List Term) × (t ≡ applied (symbol c) args)

-- both terms have constructors at their heads, and these are different
abbrev pub HaveClash : Term → Term → Type 0
HaveClash a b = (c : ℕ) × (d : ℕ) × IsHeadOf a c × IsHeadOf b d × (c ≡ d → ⊥)

-- no values of the variables of both terms make them equal
abbrev pub AreNeverEqual : Term → Term → Type 0
AreNeverEqual a b = (f g : Substitution) → substitute f a ≡ substitute g b → ⊥

-- no values of the variables of both rows make the columns of the pair equal
abbrev pub NeverAgree : List Term → List Term → Pair → Type 0
NeverAgree left right p = (f g : Substitution)
    → slice_get (map (substitute f) left) p.0 ≡ slice_get (map (substitute g) right) p.1 → ⊥
