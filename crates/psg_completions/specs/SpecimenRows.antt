-- Specimens by the rows of their relations: the columns whose most general rows are a specimen's shapes.
use Rattle.std.specs.Prelude.{ℕ, ◌≡◌, ◌↔◌, List, ◌∷◌, map}
use Rattle.psg_terms.specs.Terms.{Term}
use Rattle.psg_terms.specs.Signature.{HaveSorts}
use Rattle.psg_terms.specs.Instances.{IsInstance}
use Rattle.psg_terms.specs.Canonical.{AreWrittenOut}
use Rattle.psg_terms.specs.Relations.{IsIn, IsRelation}
use Rattle.psg_grammar.specs.declared.types.SpecimenHole.{SpecimenHole}
use Rattle.psg_grammar.specs.declared.types.Specimen.{Specimen}
use Rattle.psg_grammar.specs.declared.types.Case.{Case}
use Rattle.psg_grammar.specs.declared.types.DeclareRow.{DeclareRow}
use Rattle.psg_grammar.specs.declared.types.Definition.{Definition}
use Rattle.psg_grammar.specs.Open.{Choice}
use Rattle.psg_grammar.specs.Regions.{IsDistinct}
use Rattle.psg_grammar.specs.Specimens.{tree_of, holes_of}
use Rattle.psg_completions.specs.General.{it, Shows, IsGeneralCase, IsGeneralDeclare}

-- the terms of the hole places
abbrev pub place_terms : Specimen → List Term
place_terms specimen = map (λ (h : SpecimenHole). h.term) (holes_of specimen)

module _ (def : Definition) where
  -- the value of the root, and then those of the hole places
  pub record CaseTakes (specimen : Specimen) (choice : Choice (tree_of specimen)) (columns : List Term) : Type 0 where
    pub value : Term
    pub seen : List Term
    pub columns_are : columns ≡ value ∷ seen
    pub shows : Shows def specimen choice value seen

  -- the entity of `$it` in the space in front of them
  pub record DeclareTakes (space : ℕ) (specimen : Specimen) (choice : Choice (tree_of specimen)) (columns : List Term)
      : Type 0 where
    pub value : Term
    pub seen : List Term
    pub shows : Shows def specimen choice value seen
    pub columns_are : columns ≡ shows.outside (it space) ∷ value ∷ seen

  -- A case is general where its term with those of the hole places is an instance of a row of the specimen's relation.
  abbrev pub CaseByRows : Type 0
  CaseByRows = (one : Case) (sorts : List ℕ) (rows : List (List Term))
      → IsRelation def.signature sorts (CaseTakes one.specimen) rows
      → HaveSorts def.signature (one.term ∷ place_terms one.specimen) sorts
      → AreWrittenOut def.signature (one.term ∷ place_terms one.specimen)
      → IsDistinct def (tree_of one.specimen)
      → ((general : List Term) × IsIn general rows × IsInstance (one.term ∷ place_terms one.specimen) general) ↔
      IsGeneralCase def one

  -- A declare row is general exactly where its terms are an instance of a row, here with its entity term in front.
  abbrev pub DeclareByRows : Type 0
  DeclareByRows = (d : DeclareRow) (sorts : List ℕ) (rows : List (List Term))
      → IsRelation def.signature sorts (DeclareTakes d.space d.specimen) rows
      → HaveSorts def.signature (d.term ∷ d.value ∷ place_terms d.specimen) sorts
      → AreWrittenOut def.signature (d.term ∷ d.value ∷ place_terms d.specimen)
      → IsDistinct def (tree_of d.specimen)
      → ((general : List Term) × IsIn general rows × IsInstance (d.term ∷ d.value ∷ place_terms d.specimen) general) ↔
      IsGeneralDeclare def d
