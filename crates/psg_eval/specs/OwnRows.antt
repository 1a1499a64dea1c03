-- The rows that a node has by itself: those of an operator, of the cells and ends of a list, and of placeholders.
use Rattle.std.specs.Prelude.{ℕ, ◌≡◌, true, false, List, [], ◌∷◌, ◌++◌, map, slice_get, Some}
use Rattle.psg_terms.specs.Names.{Name}
use Rattle.psg_terms.specs.Terms.{Term}
use Rattle.psg_terms.specs.Signature.{Signature}
use Rattle.psg_terms.specs.Instances.{Substitution, substitute, IsGrounding}
use Rattle.psg_terms.specs.Relations.{IsIn}
use Rattle.psg_grammar.specs.declared.types.Kind.{Kind}
use Rattle.psg_grammar.specs.declared.types.Item.{Item}
use Rattle.psg_grammar.specs.declared.types.Item.TheVariants as items
use Rattle.psg_grammar.specs.declared.types.Row.{Row}
use Rattle.psg_grammar.specs.declared.types.Operator.{Operator}
use Rattle.psg_grammar.specs.declared.types.HoleRow.{HoleRow}
use Rattle.psg_grammar.specs.declared.types.Definition.{Definition}
use Rattle.psg_grammar.specs.Keys.{Key, in_order}
use Rattle.psg_scope.specs.Headers.{keys}
use Rattle.psg_scope.specs.declared.header.NameCol.{NameCol}

-- the name positions among the items, with these names
abbrev pub positions : List Item → List Name → List NameCol
positions [] names = []
positions (items.Refers s ∷ rest) [] = []
positions (items.Refers s ∷ rest) (n ∷ names) = record { space = s; name = n; declared = false } ∷ positions rest names
positions (items.Declares s ∷ rest) [] = []
positions (items.Declares s ∷ rest) (n ∷ names) = record { space = s; name = n; declared = true } ∷ positions rest names
positions (_ ∷ rest) names = positions rest names

-- of the columns of an operator's row those of the slots
abbrev pub slot_terms : List Item → List Term → List Term
slot_terms [] terms = []
slot_terms (items.Slot k ∷ rest) [] = []
slot_terms (items.Slot k ∷ rest) (t ∷ terms) = t ∷ slot_terms rest terms
slot_terms (items.Refers s ∷ rest) [] = []
slot_terms (items.Refers s ∷ rest) (t ∷ terms) = slot_terms rest terms
slot_terms (items.Declares s ∷ rest) [] = []
slot_terms (items.Declares s ∷ rest) (t ∷ terms) = slot_terms rest terms
slot_terms (_ ∷ rest) terms = slot_terms rest terms

-- of the columns of an operator's row those of the name positions
abbrev pub name_terms : List Item → List Term → List Term
name_terms [] terms = []
name_terms (items.Slot k ∷ rest) [] = []
name_terms (items.Slot k ∷ rest) (t ∷ terms) = name_terms rest terms
name_terms (items.Refers s ∷ rest) [] = []
name_terms (items.Refers s ∷ rest) (t ∷ terms) = t ∷ name_terms rest terms
name_terms (items.Declares s ∷ rest) [] = []
name_terms (items.Declares s ∷ rest) (t ∷ terms) = t ∷ name_terms rest terms
name_terms (_ ∷ rest) terms = name_terms rest terms

-- a ground instance of the operator's row r, in which the terms at positions with one key are equal: the head, the
-- terms of the slots, and for each key its entity
pub record OwnRow (sig : Signature) (op : Operator) (names : List Name) (r : ℕ) (x : List Term) : Type 0 where
  pub row : Row
  pub chosen : slice_get op.rows r ≡ Some row
  pub terms : Substitution
  pub grounding : IsGrounding sig terms
  pub entity : Key → Term
  pub agree : map entity (keys (positions op.items names)) ≡ name_terms op.items (map (substitute terms) row.columns)
  pub row_is : x ≡ (substitute terms row.head ∷ slot_terms op.items (map (substitute terms) row.columns))
      ++ map entity (in_order (keys (positions op.items names)))

-- the head and the columns of a row
abbrev pub whole_row : Row → List Term
whole_row row = row.head ∷ row.columns

-- the terms of the definition's hole rows of the kind
pub record AreHoleRows (def : Definition) (kind : Kind) (rows : List (List Term)) : Type 0 where
  pub from : (row : List Term) → IsIn row rows
      → (r : ℕ) × (h : HoleRow) × (slice_get def.hole_rows r ≡ Some h) × (h.kind ≡ kind) × (row ≡ h.term ∷ [])
  pub to : (r : ℕ) (h : HoleRow) → slice_get def.hole_rows r ≡ Some h → h.kind ≡ kind → IsIn (h.term ∷ []) rows
