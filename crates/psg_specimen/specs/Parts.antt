-- The hole places among parts and elements, and subterms among the arguments of a constructor.
use Rattle.std.specs.Prelude.{◌≡◌, ◌⊎◌, ◌++◌, List, [], ◌∷◌}
use Rattle.psg_terms.specs.Terms.{Term}
use Rattle.psg_grammar.specs.declared.types.SpecimenHole.{SpecimenHole}
use Rattle.psg_grammar.specs.declared.types.Specimen.{Specimen}
use Rattle.psg_grammar.specs.declared.types.SpecimenPart.{SpecimenPart}
use Rattle.psg_grammar.specs.Specimens.{holes_of, holes_of_part}
use Rattle.psg_completions.specs.Places.{IsPart}

-- one of the terms, or a proper subterm of one
abbrev pub IsAmong : Term → List Term → Type 0
IsAmong u [] = ⊥
IsAmong u (a ∷ rest) = ((u ≡ a) ⊎ IsPart u a) ⊎ IsAmong u rest

-- the hole places of the parts of an operator, and of the elements of a list, from left to right
abbrev pub part_places : List SpecimenPart → List SpecimenHole
part_places [] = []
part_places (p ∷ rest) = holes_of_part p ++ part_places rest

-- the hole places of all elements, in order
abbrev pub element_places : List Specimen → List SpecimenHole
element_places [] = []
element_places (s ∷ rest) = holes_of s ++ element_places rest
