-- Operators with terminals as numbers.
use Rattle.std.specs.Prelude.{ℕ, List, [], ◌∷◌, ◌++◌, Option, Some, None, option_map}
use Rattle.psg_terms.specs.Names.{Name}
use Rattle.psg_grammar.specs.declared.types.Item.{Item}
use Rattle.psg_grammar.specs.declared.types.Item.TheVariants as items
use Rattle.psg_grammar.specs.declared.types.Operator.{Operator}
use Rattle.psg_class.specs.Numbers.{word_number}
use Rattle.psg_class.specs.declared.shape.Part.{Part}
use Rattle.psg_class.specs.declared.shape.Part.TheVariants as parts
use Rattle.psg_class.specs.declared.shape.Shape.{Shape}

-- the number of an item's terminal, where those of words begin at the base
abbrev pub item_number : ℕ → List Name → Item → Option ℕ
item_number base words (items.Word w) = word_number base words w
item_number base words (items.Refers s) = Some 0
item_number base words (items.Declares s) = Some 0
item_number base words items.Number = Some 1
item_number base words items.Text = Some 2
item_number base words _ = None

-- the part that an item is: a slot, or a token by its number; a mark for the layout is none
abbrev pub part_of : ℕ → List Name → Item → Option Part
part_of base words (items.Slot k) = Some (parts.Slot k)
part_of base words i = option_map (λ n. parts.Token n) (item_number base words i)

abbrev pub listed : {X : Type 0} → Option X → List X
listed None = []
listed (Some x) = x ∷ []

abbrev pub parts_of : ℕ → List Name → List Item → List Part
parts_of base words [] = []
parts_of base words (i ∷ rest) = listed (part_of base words i) ++ parts_of base words rest

-- the phylum, the level and the parts of an operator
abbrev pub shape_of : ℕ → List Name → Operator → Shape
shape_of base words o = record { phylum = o.phylum; level = o.level; parts = parts_of base words o.items }
