-- Coverage by the rows of relations: the values of a row, over the hole rows of its children, and their most general
-- rows.
use Rattle.std.specs.Prelude.{ℕ, ◌≡◌, ◌↔◌, List, [], ◌∷◌, map, slice_get, Some}
use Rattle.psg_terms.specs.Terms.{Term}
use Rattle.psg_terms.specs.Instances.{Substitution, substitute, IsInstance, IsGrounding}
use Rattle.psg_terms.specs.Relations.{IsIn, IsRelation}
use Rattle.psg_grammar.specs.declared.types.Kind.{Kind}
use Rattle.psg_grammar.specs.declared.types.Kind.TheVariants as kinds
use Rattle.psg_grammar.specs.declared.types.Operator.{Operator}
use Rattle.psg_grammar.specs.declared.types.ListKind.{ListKind}
use Rattle.psg_grammar.specs.declared.types.Row.{Row}
use Rattle.psg_grammar.specs.declared.types.HoleRow.{HoleRow}
use Rattle.psg_grammar.specs.declared.types.Definition.{Definition}
use Rattle.psg_grammar.specs.Lookups.{part_items}
use Rattle.psg_grammar.specs.Open.{IsOfHoleRow}
use Rattle.psg_grammar.specs.Sound.{HasKindSort}
use Rattle.psg_completions.specs.Covered.{SlotsHold}

module _ (def : Definition) where
  -- the value of the operator's row where its slots have values of these hole rows
  pub record RowTakes (op : Operator) (row : Row) (rs : List ℕ) (v : Term) : Type 0 where
    pub terms : Substitution
    pub grounding : IsGrounding def.signature terms
    pub holds : SlotsHold def (part_items op.items) (map (substitute terms) row.columns) rs
    pub value : v ≡ substitute terms row.head

  -- the value of the cell row where the element and the rest have values of these two hole rows
  pub record CellTakes (l : ℕ) (list : ListKind) (row : Row) (two : ℕ × ℕ) (v : Term) : Type 0 where
    pub terms : Substitution
    pub grounding : IsGrounding def.signature terms
    pub first : Term
    pub others : Term
    pub columns : map (substitute terms) row.columns ≡ first ∷ others ∷ []
    pub element : IsOfHoleRow def (kinds.Phylum list.element) two.0 first
    pub rest : IsOfHoleRow def (kinds.List l) two.1 others
    pub value : v ≡ substitute terms row.head

  -- the row is an instance of the term of a hole row of the kind
  abbrev pub IsCoveredBy : Kind → List Term → Type 0
  IsCoveredBy kind general = (r : ℕ) × (row : HoleRow) × (slice_get def.hole_rows r ≡ Some row) × (row.kind ≡ kind)
      × IsInstance general (row.term ∷ [])

  -- Each most general row of these values is an instance of a hole row of the kind exactly where, for each choice that
  -- has a value, all its values are of one hole row.
  abbrev pub IsCoveredByRows : (kind : Kind) {C : Type 0} → (C → Term → Type 0) → Type 0
  IsCoveredByRows kind {C} Takes = (s : ℕ) → HasKindSort def kind s → (rows : List (List Term))
      → IsRelation def.signature (s ∷ [])
      (λ (c : C) (columns : List Term). (v : Term) × (columns ≡ v ∷ []) × Takes c v) rows
      → ((general : List Term) → IsIn general rows → IsCoveredBy kind general)
      ↔ ((c : C) → ((v : Term) × Takes c v) → (r : ℕ) × ((v : Term) → Takes c v → IsOfHoleRow def kind r v))

  abbrev pub OperatorsByRows : Type 0
  OperatorsByRows = (op : Operator) (row : Row) → IsCoveredByRows (kinds.Phylum op.phylum) (RowTakes op row)

  abbrev pub CellsByRows : Type 0
  CellsByRows = (l : ℕ) (list : ListKind) (row : Row) → IsCoveredByRows (kinds.List l) (CellTakes l list row)
