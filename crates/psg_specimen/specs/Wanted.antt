-- What is wanted of hole places.
use Rattle.std.specs.Prelude.{ℕ, ◌≡◌, [], ◌∷◌, Some, slice_get}
use Rattle.psg_terms.specs.Terms.{Term}
use Rattle.psg_terms.specs.Instances.{IsInstance}
use Rattle.psg_grammar.specs.declared.types.Kind.{Kind}
use Rattle.psg_grammar.specs.declared.types.HoleRow.{HoleRow}
use Rattle.psg_grammar.specs.declared.types.Specimen.{Specimen}
use Rattle.psg_grammar.specs.declared.types.SpecimenHole.{SpecimenHole}
use Rattle.psg_grammar.specs.declared.types.Definition.{Definition}
use Rattle.psg_grammar.specs.Specimens.{holes_of}
use Rattle.psg_completions.specs.Places.{IsPart, IsOfOneRow}
use Rattle.psg_specimen.specs.Refusal.{IsSmallerAt, IsOpenAt}
use Rattle.psg_specimen.specs.declared.fault.Site.{Site}
use Rattle.psg_specimen.specs.declared.places.Wanted.{Wanted}
use Rattle.psg_specimen.specs.declared.places.Wanted.TheVariants as wanted

-- a hole place of the kind with the term
abbrev pub as_place : Kind → Term → SpecimenHole
as_place kind term = record { kind = kind; term = term }

-- the place's term is an instance of the row's, and both are of one kind
pub record IsOfRow (place : SpecimenHole) (row : HoleRow) : Type 0 where
  pub same : row.kind ≡ place.kind
  pub is : IsInstance (place.term ∷ []) (row.term ∷ [])

module _ (def : Definition) where
  abbrev pub IsWanted : Wanted → SpecimenHole → Term → Type 0
  IsWanted wanted.Smaller place bound = IsPart place.term bound
  IsWanted wanted.OfOneRow place bound = IsOfOneRow def place

  abbrev pub IsWantedPlace : Wanted → Specimen → Term → ℕ → Type 0
  IsWantedPlace w specimen bound h = (place : SpecimenHole) → slice_get (holes_of specimen) h ≡ Some place
      → IsWanted w place bound

  -- by the sites of the definition
  abbrev pub Wants : Wanted → Site → ℕ → Type 0
  Wants wanted.Smaller = IsSmallerAt def
  Wants wanted.OfOneRow = IsOpenAt def
