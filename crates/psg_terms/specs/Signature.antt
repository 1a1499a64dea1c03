-- Sorts, constructors and the sort of a term.
use Rattle.std.specs.Prelude.{ℕ, ◌≡◌, ◌<◌, ◌==◌, ◌+◌, List, [], ◌∷◌, length, slice_get, Some, None, Option, cond}
use Rattle.psg_terms.specs.Terms.{Term, variable, symbol, apply}

-- a constructor: its name, the sorts of its arguments, and the sort that it makes
pub record Symbol : Type 0 where
  pub name : List ℕ
  pub arguments : List ℕ
  pub sort : ℕ

-- the names of the sorts, and the constructors of all sorts in order
pub record Signature : Type 0 where
  pub sorts : List (List ℕ)
  pub symbols : List Symbol

-- the number of a constructor's arguments that are wanted, and what it makes
abbrev pub HasSymbol : Signature → ℕ → List ℕ → ℕ → Type 0
HasSymbol sig c arguments sort = (s : Symbol) × (slice_get sig.symbols c ≡ Some s) × (s.arguments ≡ arguments)
    × (s.sort ≡ sort)

-- applied to arguments of these sorts, the term is one of the sort
abbrev pub Takes : Signature → Term → List ℕ → ℕ → Type 0
Takes sig (variable s n) arguments sort = (s < length sig.sorts) × (arguments ≡ []) × (s ≡ sort)
Takes sig (symbol c) arguments sort = HasSymbol sig c arguments sort
Takes sig (apply f a) arguments sort = (first : ℕ) × Takes sig f (first ∷ arguments) sort × Takes sig a [] first

-- the term is one of the signature, of the sort, with all arguments of its constructors
abbrev pub HasSort : Signature → Term → ℕ → Type 0
HasSort sig t sort = Takes sig t [] sort

-- terms of these sorts, place by place
abbrev pub HaveSorts : Signature → List Term → List ℕ → Type 0
HaveSorts sig [] [] = Unit {0}
HaveSorts sig [] (s ∷ sorts) = ⊥
HaveSorts sig (t ∷ row) [] = ⊥
HaveSorts sig (t ∷ row) (s ∷ sorts) = HasSort sig t s × HaveSorts sig row sorts

-- the numbers from n on of the constructors of a sort
abbrev pub constructors_from : ℕ → ℕ → List Symbol → List ℕ
constructors_from n sort [] = []
constructors_from n sort (s ∷ rest) =
    cond (s.sort == sort) (n ∷ constructors_from (n + 1) sort rest) (constructors_from (n + 1) sort rest)

-- the numbers of the constructors of a sort, ascending
abbrev pub constructors_of : Signature → ℕ → List ℕ
constructors_of sig sort = constructors_from 0 sort sig.symbols

-- the only constructor, where there is one alone
abbrev pub sole : List ℕ → Option ℕ
sole [] = None
sole (c ∷ []) = Some c
sole (c ∷ d ∷ rest) = None

-- the constructor of a sort that has exactly one
abbrev pub only_constructor : Signature → ℕ → Option ℕ
only_constructor sig sort = sole (constructors_of sig sort)

-- sorts of the signature
abbrev pub AreSorts : Signature → List ℕ → Type 0
AreSorts sig [] = Unit {0}
AreSorts sig (s ∷ sorts) = (s < length sig.sorts) × AreSorts sig sorts

-- what a constructor names is there
abbrev pub AreClosed : Signature → List Symbol → Type 0
AreClosed sig [] = Unit {0}
AreClosed sig (s ∷ rest) = AreSorts sig s.arguments × (s.sort < length sig.sorts) × AreClosed sig rest

-- terms of the signature, each of some sort
abbrev pub AreTerms : Signature → List Term → Type 0
AreTerms sig row = (sorts : List ℕ) × HaveSorts sig row sorts

-- the arguments are the constructor's in number and sorts
abbrev pub TakesArguments : Signature → ℕ → List Term → Type 0
TakesArguments sig c args = (s : Symbol) × (slice_get sig.symbols c ≡ Some s) × HaveSorts sig args s.arguments
