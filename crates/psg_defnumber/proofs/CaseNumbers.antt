-- Worked cases of names as numbers: types with arrays, and a sort that is one constant.
use Rattle.std.proofs.Common.{ℕ, List, [], ◌∷◌, inl, inr, refl, arith}
use Rattle.std.specs.Prelude.{codes}
use Rattle.psg_terms.specs.Names.{Name}
use Rattle.psg_terms.specs.Terms as terms
use Rattle.psg_terms.specs.Signature.{Signature, Symbol}
use Rattle.psg_deflines.specs.WrittenTerms.{variable, named, apply}
use Rattle.psg_defnumber.specs.Numbers.{IsTerm, IsNaming}

abbrev made : Name → List ℕ → ℕ → Symbol
made name arguments sort = record { name = name; arguments = arguments; sort = sort }

abbrev sig : Signature
sig = record {
  sorts = codes "Type" ∷ codes "Unit" ∷ [];
  symbols = made (codes "int") [] 0 ∷ made (codes "arr") (0 ∷ []) 0 ∷ made (codes "ok") [] 1 ∷ [];
}

abbrev names : List Name
names = codes "T" ∷ []

-- an array of a variable
pub array : IsTerm sig names [] 0 (apply (named (codes "arr")) (variable (codes "T"))) (terms.apply (terms.symbol 1) (terms.variable 0 1))
array = (
  0,
  terms.symbol 1,
  terms.variable 0 1,
  (1, made (codes "arr") (0 ∷ []) 0, refl, refl, refl, refl, refl),
  (refl, inr (0, refl, refl, refl)),
  refl,
)

-- a variable of a one-constant sort is the constant, and takes no number
pub one_constant : IsTerm sig names [] 1 (variable (codes "U")) (terms.symbol 2)
one_constant = (refl, inl (2, refl, refl))

pub numbered : IsNaming names (terms.apply (terms.symbol 1) (terms.variable 0 1) ∷ terms.variable 0 1 ∷ [])
numbered = record { once = refl; first = (refl, tt) }

-- numbers begin with 1
pub not_from_two : IsNaming (codes "S" ∷ codes "T" ∷ []) (terms.variable 0 2 ∷ []) → ⊥
not_from_two h = omega (arith, h.first.0)
