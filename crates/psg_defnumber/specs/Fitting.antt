-- Specimens while they are made from the specimens of a line.
use Rattle.std.specs.Prelude.{ℕ, ◌≡◌, List, [], ◌∷◌, ◌++◌, map, Option, Some, None}
use Rattle.psg_terms.specs.Names.{Name}
use Rattle.psg_terms.specs.Terms.{Term}
use Rattle.psg_terms.specs.Canonical.{variables_of}
use Rattle.psg_grammar.specs.declared.types.Kind.TheVariants as kinds
use Rattle.psg_grammar.specs.declared.types.Item.{Item}
use Rattle.psg_grammar.specs.declared.types.SpecimenHole.{SpecimenHole}
use Rattle.psg_grammar.specs.declared.types.SpecimenPart.{SpecimenPart}
use Rattle.psg_grammar.specs.declared.types.Specimen.{Specimen}
use Rattle.psg_grammar.specs.declared.types.Definition.{Definition}
use Rattle.psg_grammar.specs.Specimens.{holes_of, holes_of_part}
use Rattle.psg_deflines.specs.WrittenTrees.{WrittenTree}
use Rattle.psg_deflines.specs.TreeShapes.{with_part}
use Rattle.psg_deflines.specs.declared.trees.LinePlace.{LinePlace}
use Rattle.psg_deflines.specs.declared.trees.LinePart.{LinePart}
use Rattle.psg_defnumber.specs.Growing.{Lasts}
use Rattle.psg_defnumber.specs.Naming.{LineVariable, Meets, Named}
use Rattle.psg_defnumber.specs.Numbers.{IsPlace, IsTree, IsPart}

-- The terms are made by variables that are met. It holds with whatever names are met later, in each definition of which
-- this is a part.
pub record IsMade (def : Definition) (old new : List LineVariable) (row : List Term)
    (Holds : Definition → List Name → Type 0) : Type 0 where
  pub meets : Meets old new (variables_of row)
  pub is : Named new (λ names. Lasts def (λ full. Holds full names))

-- the terms of hole places
abbrev pub hole_terms : List SpecimenHole → List Term
hole_terms holes = map (λ (h : SpecimenHole). h.term) holes

-- the terms in parts and in elements, from left to right
abbrev pub part_terms : List SpecimenPart → List Term
part_terms [] = []
part_terms (p ∷ ps) = hole_terms (holes_of_part p) ++ part_terms ps

-- the terms of the hole places of specimens, from left to right
abbrev pub element_terms : List Specimen → List Term
element_terms [] = []
element_terms (s ∷ rest) = hole_terms (holes_of s) ++ element_terms rest

module _ (full : Definition) (names : List Name) where
  -- the part is that of the item, after whatever is in front of it
  abbrev pub PartFits : Item → SpecimenPart → LinePart → Type 0
  PartFits i p w = (front : WrittenTree) → IsPart full names i p front (with_part front w)

  abbrev pub PartsFit : List Item → List SpecimenPart → List LinePart → Type 0
  PartsFit [] [] ws = ws ≡ []
  PartsFit [] (p ∷ ps) ws = ⊥
  PartsFit (i ∷ rest) [] ws = ⊥
  PartsFit (i ∷ rest) (p ∷ ps) ws =
      (w : LinePart) × (more : List LinePart) × (ws ≡ w ∷ more) × PartFits i p w × PartsFit rest ps more

  abbrev pub ElementsFit : ℕ → List Specimen → List WrittenTree → Type 0
  ElementsFit element [] ws = ws ≡ []
  ElementsFit element (s ∷ rest) ws = (w : WrittenTree) × (more : List WrittenTree) × (ws ≡ w ∷ more)
      × IsTree full names (kinds.Phylum element) s w × ElementsFit element rest more

  -- the rest of a list after its elements
  abbrev pub RestFits : ℕ → Option SpecimenHole → Option LinePlace → Type 0
  RestFits l None None = Unit {0}
  RestFits l None (Some w) = ⊥
  RestFits l (Some h) None = ⊥
  RestFits l (Some h) (Some w) = (h.kind ≡ kinds.List l) × IsPlace full names w.kind w.term h
