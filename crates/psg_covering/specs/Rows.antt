-- What is said of a row of an operator and of a cell row of a list.
use Rattle.std.specs.Prelude.{ℕ, ◌≡◌, List, [], ◌∷◌, map}
use Rattle.psg_terms.specs.Terms.{Term}
use Rattle.psg_terms.specs.Instances.{Substitution, substitute, IsGrounding}
use Rattle.psg_grammar.specs.declared.types.Kind.TheVariants as kinds
use Rattle.psg_grammar.specs.declared.types.Operator.{Operator}
use Rattle.psg_grammar.specs.declared.types.ListKind.{ListKind}
use Rattle.psg_grammar.specs.declared.types.Row.{Row}
use Rattle.psg_grammar.specs.declared.types.Definition.{Definition}
use Rattle.psg_grammar.specs.Lookups.{part_items}
use Rattle.psg_grammar.specs.Open.{IsOfHoleRow}
use Rattle.psg_grammar.specs.Sound.{IsListKind, IsOperator, IsRow}
use Rattle.psg_completions.specs.Covered.{SlotsHold}

module _ (def : Definition) where
  -- whatever hole rows the slots are of, the values of the row are those of one hole row
  abbrev pub IsRowCovered : Operator → Row → Type 0
  IsRowCovered op row = (rs : List ℕ) → (r : ℕ) × ((f : Substitution) → IsGrounding def.signature f
      → SlotsHold def (part_items op.items) (map (substitute f) row.columns) rs
      → IsOfHoleRow def (kinds.Phylum op.phylum) r (substitute f row.head))

  abbrev pub IsCellCovered : ℕ → ListKind → Row → Type 0
  IsCellCovered l list row = (a b : ℕ) → (r : ℕ) × ((f : Substitution) → IsGrounding def.signature f
      → (first others : Term) → map (substitute f) row.columns ≡ first ∷ others ∷ []
      → IsOfHoleRow def (kinds.Phylum list.element) a first → IsOfHoleRow def (kinds.List l) b others
      → IsOfHoleRow def (kinds.List l) r (substitute f row.head))

  -- a row of its sorts
  abbrev pub IsRowOfOperator : Operator → Row → Type 0
  IsRowOfOperator op row = (o : IsOperator def op) × IsRow def o.sort o.columns row

  abbrev pub IsCellOfList : ListKind → Row → Type 0
  IsCellOfList list row = (l : IsListKind def list) × IsRow def list.sort.0 (l.element ∷ list.sort.0 ∷ []) row
