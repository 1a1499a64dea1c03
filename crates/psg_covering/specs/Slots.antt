-- The slots of an operator's row, without its name positions.
use Rattle.std.specs.Prelude.{◌≡◌, List, [], ◌∷◌, ◌++◌}
use Rattle.psg_terms.specs.Terms.{Term}
use Rattle.psg_grammar.specs.declared.types.Kind.{Kind}
use Rattle.psg_grammar.specs.declared.types.Item.{Item}
use Rattle.psg_grammar.specs.declared.types.Item.TheVariants as items

-- the kinds of the slots, in order
abbrev pub slot_kinds : List Item → List Kind
slot_kinds [] = []
slot_kinds (items.Slot k ∷ rest) = k ∷ slot_kinds rest
slot_kinds (_ ∷ rest) = slot_kinds rest

-- the columns of the slots among those of an operator's row
abbrev pub slot_terms : List Item → List Term → List Term
slot_terms [] terms = []
slot_terms (items.Slot k ∷ rest) [] = []
slot_terms (items.Slot k ∷ rest) (t ∷ terms) = t ∷ slot_terms rest terms
slot_terms (items.Refers s ∷ rest) [] = []
slot_terms (items.Refers s ∷ rest) (t ∷ terms) = slot_terms rest terms
slot_terms (items.Declares s ∷ rest) [] = []
slot_terms (items.Declares s ∷ rest) (t ∷ terms) = slot_terms rest terms
slot_terms (_ ∷ rest) terms = slot_terms rest terms

-- the kind of an item that is a slot
abbrev pub kinds_in : Item → List Kind
kinds_in (items.Slot k) = k ∷ []
kinds_in _ = []

-- all terms but the first
abbrev pub tail_of : List Term → List Term
tail_of [] = []
tail_of (t ∷ terms) = terms

-- the first column, if there is one, has moved after the terms
abbrev pub IsMoved : List Term → List Term → List Term → List Term → Type 0
IsMoved terms [] more left = (more ≡ terms) × (left ≡ [])
IsMoved terms (t ∷ columns) more left = (more ≡ terms ++ t ∷ []) × (left ≡ columns)
