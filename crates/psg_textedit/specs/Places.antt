-- The level that an operator's parts want, from its items that are left.
use Rattle.std.specs.Prelude.{ℕ, zero, suc, List, [], ◌∷◌, Option}
use Rattle.psg_grammar.specs.declared.types.Item.{Item}
use Rattle.psg_grammar.specs.declared.types.Operator.{Operator}
use Rattle.psg_tree.specs.declared.tree.Part.{Part}
use Rattle.psg_tree.specs.declared.tree.Part.TheVariants.{Sub, Name, Number, Text}
use Rattle.psg_unparse.specs.Rows.{wanted_of, from_part, behind_first}

-- the least level of the subtree of the number among the parts; 0 where there is none
abbrev pub wanted_among : Option Operator → List Item → List Part → ℕ → ℕ
wanted_among o left [] k = 0
wanted_among o left (Sub t ∷ rest) zero = wanted_of o left
wanted_among o left (Sub t ∷ rest) (suc k) = wanted_among o (from_part (behind_first left)) rest k
wanted_among o left (Name n ∷ rest) k = wanted_among o (from_part (behind_first left)) rest k
wanted_among o left (Number n ∷ rest) k = wanted_among o (from_part (behind_first left)) rest k
wanted_among o left (Text t ∷ rest) k = wanted_among o (from_part (behind_first left)) rest k
