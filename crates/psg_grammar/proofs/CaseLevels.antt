-- Levels of slots by the form of the operator and the place of the slot, and look-ups by number.
use Rattle.std.proofs.Common.{◌≡◌, List, [], ◌∷◌, codes, count_by, Some, None, refl}
use Rattle.psg_grammar.specs.declared.types.Kind.TheVariants as kinds
use Rattle.psg_grammar.specs.declared.types.Level.{Level}
use Rattle.psg_grammar.specs.declared.types.Level.TheVariants as levels
use Rattle.psg_grammar.specs.declared.types.Item.{Item}
use Rattle.psg_grammar.specs.declared.types.Item.TheVariants as items
use Rattle.psg_grammar.specs.declared.types.Operator.{Operator}
use Rattle.psg_grammar.specs.Kinds.{base_phylum_of, kind_name_of, kind_sort_of, op_name_of}
use Rattle.psg_grammar.specs.Levels.{is_name_position, is_slot, least_level_of, level_number}
use Rattle.psg_grammar.proofs.CaseLanguage.{spaces, op_let, op_of, sort_id}

-- the operator of phylum 0 with the form and these items
abbrev formed : Level → List Item → Operator
formed level xs = record (op_of (codes "o") 0 xs []) { level = level }

abbrev own : Item
own = items.Slot (kinds.Phylum 0)

-- `Exp tight "+" space Exp in`
abbrev infix_items : List Item
infix_items = own ∷ items.Tight ∷ items.Word (codes "+") ∷ items.Space ∷ own ∷ items.In ∷ []

left : (least_level_of (formed (levels.InfixLeft 4) infix_items) 0 ≡ 4) × (least_level_of (formed (levels.InfixLeft 4) infix_items) 4 ≡ 5)
left = (refl, refl)

right : (least_level_of (formed (levels.InfixRight 4) infix_items) 0 ≡ 5) × (least_level_of (formed (levels.InfixRight 4) infix_items) 4 ≡ 4)
right = (refl, refl)

neither : (least_level_of (formed (levels.InfixNone 3) infix_items) 0 ≡ 4) × (least_level_of (formed (levels.InfixNone 3) infix_items) 4 ≡ 4)
neither = (refl, refl)

-- `Exp "[" Exp "]"`: only the first slot is at an end
index : (least_level_of (formed (levels.Postfix 8) (own ∷ items.Word (codes "[") ∷ own ∷ items.Word (codes "]") ∷ [])) 0 ≡ 8) × (least_level_of (formed (levels.Postfix 8) (own ∷ items.Word (codes "[") ∷ own ∷ items.Word (codes "]") ∷ [])) 2 ≡ 0)
index = (refl, refl)

-- `"not" Exp`, also behind a mark
not_of : (least_level_of (formed (levels.Prefix 6) (items.Word (codes "not") ∷ own ∷ [])) 1 ≡ 6) × (least_level_of (formed (levels.Prefix 6) (items.Word (codes "not") ∷ items.Space ∷ own ∷ items.Line ∷ [])) 2 ≡ 6)
not_of = (refl, refl)

-- a slot of another phylum or of a list asks for nothing, and so does an operator without a form
other : (least_level_of (formed (levels.InfixLeft 4) (items.Slot (kinds.Phylum 1) ∷ items.Word (codes "+") ∷ items.Slot (kinds.List 0) ∷ [])) 0 ≡ 0) × (least_level_of (formed (levels.InfixLeft 4) (items.Slot (kinds.Phylum 1) ∷ items.Word (codes "+") ∷ items.Slot (kinds.List 0) ∷ [])) 2 ≡ 0)
other = (refl, refl)

plain : (least_level_of (formed levels.Plain infix_items) 4 ≡ 0) × (level_number levels.Plain ≡ 10) × (level_number (levels.Postfix 8) ≡ 8)
plain = (refl, refl, refl)

-- names are no slots
counts : (count_by is_slot op_let.items ≡ 1) × (count_by is_name_position op_let.items ≡ 1)
counts = (refl, refl)

-- ---- by number

names : (kind_name_of spaces (kinds.Phylum 1) ≡ Some (codes "Item")) × (kind_name_of spaces (kinds.List 0) ≡ Some (codes "Items")) × (kind_name_of spaces (kinds.List 1) ≡ None) × (op_name_of spaces 3 ≡ Some (codes "jump")) × (op_name_of spaces 7 ≡ None)
names = (refl, refl, refl, refl, refl)

sorts : (kind_sort_of spaces (kinds.Phylum 0) ≡ Some (sort_id 1)) × (kind_sort_of spaces (kinds.List 0) ≡ Some (sort_id 0))
sorts = (refl, refl)

bases : (base_phylum_of spaces (kinds.Phylum 0) ≡ Some 0) × (base_phylum_of spaces (kinds.List 0) ≡ Some 1)
bases = (refl, refl)
