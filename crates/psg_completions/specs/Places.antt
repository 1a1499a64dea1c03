-- The hole places of a specimen.
use Rattle.std.specs.Prelude.{ℕ, ◌≡◌, ◌⊎◌, [], ◌∷◌, slice_get, Some}
use Rattle.psg_terms.specs.Terms.{Term, variable, symbol, apply}
use Rattle.psg_terms.specs.Instances.{IsInstance}
use Rattle.psg_grammar.specs.declared.types.SpecimenHole.{SpecimenHole}
use Rattle.psg_grammar.specs.declared.types.Specimen.{Specimen}
use Rattle.psg_grammar.specs.declared.types.HoleRow.{HoleRow}
use Rattle.psg_grammar.specs.declared.types.Definition.{Definition}
use Rattle.psg_grammar.specs.Specimens.{holes_of}

-- A proper subterm: an argument, at any depth. The term itself is none, since a hole place of it would show the value
-- by itself.
abbrev pub IsPart : Term → Term → Type 0
IsPart u (variable s n) = ⊥
IsPart u (symbol c) = ⊥
IsPart u (apply f a) = (u ≡ a) ⊎ (IsPart u a ⊎ IsPart u f)

-- the term of the place with the number is a proper subterm of the bound
abbrev pub IsSmallerPlace : Specimen → Term → ℕ → Type 0
IsSmallerPlace specimen bound h = (place : SpecimenHole) → slice_get (holes_of specimen) h ≡ Some place
    → IsPart place.term bound

module _ (def : Definition) where
  -- the term of the place is an instance of one hole row of its kind
  pub record IsOfOneRow (place : SpecimenHole) : Type 0 where
    pub number : ℕ
    pub row : HoleRow
    pub chosen : slice_get def.hole_rows number ≡ Some row
    pub same : row.kind ≡ place.kind
    pub is : IsInstance (place.term ∷ []) (row.term ∷ [])

  abbrev pub IsOpenPlace : Specimen → ℕ → Type 0
  IsOpenPlace specimen h = (place : SpecimenHole) → slice_get (holes_of specimen) h ≡ Some place → IsOfOneRow place
