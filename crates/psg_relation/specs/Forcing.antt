-- Variables that have to be terms without variables, since they are paired with them.
use Rattle.std.specs.Prelude.{◌≡◌, ◌∷◌, List, [], cond, All, map}
use Rattle.psg_terms.specs.Terms.{Term, variable}
use Rattle.psg_terms.specs.Signature.{Signature, HasSort}
use Rattle.psg_terms.specs.Weight.{above_of}
use Rattle.psg_terms.specs.Instances.{Substitution, substitute}
use Rattle.psg_terms.specs.Canonical.{same_variable}
use Rattle.psg_relation.specs.declared.forcing.Forced.{Forced}

-- the terms of these variables in place of them
abbrev pub by_forced : List Forced → Substitution
by_forced [] s n = variable s n
by_forced (b ∷ rest) s n = cond (same_variable (b.sort.0, b.number) (s, n)) b.term (by_forced rest s n)

-- the substitution gives the variable its term
abbrev pub IsForced : Substitution → Forced → Type 0
IsForced g b = g b.sort.0 b.number ≡ b.term

-- the term has the variable's sort and no variables
abbrev pub IsFit : Signature → Forced → Type 0
IsFit sig b = HasSort sig b.term b.sort.0 × (above_of b.term ≡ 0)

-- What is added is fit, and each substitution that makes the second row of the first one gives each variable its term.
pub record Forces (sig : Signature) (old new : List Forced) (row closed : List Term) : Type 0 where
  pub fit : All (IsFit sig) old → All (IsFit sig) new
  pub forced : (g : Substitution) → All (IsForced g) old → map (substitute g) row ≡ closed → All (IsForced g) new
