-- Variables that were met.
use Rattle.std.specs.Prelude.{ℕ, ◌≡◌, ◌↔◌, ◌⊎◌, Bool, false, List, [], ◌∷◌, Some, None}
use Rattle.std.specs.List.{AllByRecursion}
use Rattle.std.specs.HashSet.{HashSet, contains}
use Rattle.std.specs.declared.hash.FoldHasher.{FoldHasher}
use Rattle.std.specs.declared.hash.BuildHasherDefault.{BuildHasherDefault}
use Rattle.psg_grammar.specs.declared.types.Case.{Case}
use Rattle.psg_terms.specs.Terms.{Term, variable, symbol}
use Rattle.psg_terms.specs.Signature.{Signature, only_constructor}
use Rattle.psg_terms.specs.Matching.{same_key}
use Rattle.psg_terms.specs.declared.canonical.Key.{Key}

-- a set of variables
abbrev pub Keys : Type 0
Keys = HashSet Key (BuildHasherDefault FoldHasher)

-- whether the set has the variable
abbrev pub has_key : Keys → Key → Bool
has_key set k = contains same_key set k

-- the term is not among them
abbrev pub IsNew : Term → List Term → Type 0
IsNew t rest = AllByRecursion (λ b. b ≡ t → ⊥) rest

-- the marked variables are those among the terms
abbrev pub AreMet : (Key → Bool) → List Term → Type 0
AreMet has rest = (k : Key) → (has k ≡ false) ↔ IsNew (variable k.sort.0 k.number) rest

-- the constant of its sort, or a variable of it that is not among the others
abbrev pub IsDifferent : Signature → Term → ℕ → List Term → Type 0
IsDifferent sig a s rest =
    ((d : ℕ) × (only_constructor sig s ≡ Some d) × (a ≡ symbol d))
    ⊎ ((n : ℕ) × (only_constructor sig s ≡ None) × (a ≡ variable s n) × AllByRecursion (λ b. b ≡ variable s n → ⊥) rest)

-- one case alone, with the term
abbrev pub IsWhole : List Case → Term → Type 0
IsWhole cases term = (one : Case) × (cases ≡ one ∷ []) × (one.term ≡ term)
