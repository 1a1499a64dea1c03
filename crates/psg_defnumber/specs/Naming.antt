-- Variables of a line, numbered by the names that were met so far.
use Rattle.std.specs.Prelude.{ℕ, ◌≡◌, ◌+◌, false, List, [], ◌∷◌, ◌++◌, map, Some, slice_get}
use Rattle.std.specs.Borrow.{Bor}
use Rattle.psg_terms.specs.Names.{Name, has_twice}
use Rattle.psg_terms.specs.Terms.{Term}
use Rattle.psg_terms.specs.Signature.{Signature}
use Rattle.psg_terms.specs.Canonical.{Variable, variables, variables_of, noted_all}
use Rattle.psg_terms.specs.declared.sorts.SortId.{SortId}
use Rattle.psg_deflines.specs.WrittenTerms.{WrittenTerm}
use Rattle.psg_defnumber.specs.Numbers.{IsTerm, AreTerms}
use Rattle.psg_defnumber.specs.Growing.{Grows}

-- a name that was met, and the sort of its places
abbrev pub LineVariable : Type 0
LineVariable = Bor (List ℕ) × SortId

-- the names of the variables, in the order of their first places
abbrev pub names_of : List LineVariable → List Name
names_of known = map (λ (k : LineVariable). k.0.now) known

-- the variables of the names, numbered from n on
abbrev pub numbered_from : ℕ → List LineVariable → List Variable
numbered_from n [] = []
numbered_from n (k ∷ rest) = (k.1.0, n) ∷ numbered_from (n + 1) rest

-- The names that were met are the first ones and those of these variables, in the order in which they first occur.
pub record Meets (old new : List LineVariable) (vs : List Variable) : Type 0 where
  pub more : List LineVariable
  pub grown : new ≡ old ++ more
  pub noted : noted_all (numbered_from 1 old) vs ≡ numbered_from 1 new
  pub once : has_twice (names_of old) ≡ false → has_twice (names_of new) ≡ false

-- whatever other names are met later
abbrev pub Named : List LineVariable → (List Name → Type 0) → Type 0
Named known Holds = (names : List Name) → Grows (names_of known) names → Holds names

-- the variable of the name and sort has the number
pub record IsMet (old new : List LineVariable) (name : Name) (sort n : ℕ) : Type 0 where
  pub place : ℕ
  pub number : n ≡ place + 1
  pub named : slice_get (names_of new) place ≡ Some name
  pub meets : Meets old new ((sort, n) ∷ [])

-- the term is the written one, where its variables are numbered after those that are known
pub record IsMadeTerm (sig : Signature) (old new : List LineVariable) (sort : ℕ) (w : WrittenTerm)
    (t : Term) : Type 0 where
  pub meets : Meets old new (variables t)
  pub is : Named new (λ names. IsTerm sig names [] sort w t)

-- the terms are the written ones, one by one, where their variables are numbered after those that are known
pub record AreMadeTerms (sig : Signature) (old new : List LineVariable) (sorts : List ℕ) (ws : List WrittenTerm)
    (ts : List Term) : Type 0 where
  pub meets : Meets old new (variables_of ts)
  pub are : Named new (λ names. AreTerms sig names sorts ws ts)
