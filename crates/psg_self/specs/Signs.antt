-- What is expected of the operators of the language of definitions, as the program has it. For proofs alone.
use Rattle.std.specs.Prelude.{ℕ, List, map}
use Rattle.psg_terms.specs.Names.{Name}
use Rattle.psg_grammar.specs.declared.types.Item.{Item}
use Rattle.psg_grammar.specs.declared.types.Item.TheVariants as items
use Rattle.psg_grammar.specs.declared.types.Operator.{Operator}
use Rattle.psg_grammar.specs.declared.types.ListKind.{ListKind}
use Rattle.psg_self.specs.declared.signs.Sign.{Sign}
use Rattle.psg_self.specs.declared.signs.Sign.TheVariants as signs
use Rattle.psg_self.specs.declared.signs.Wanted.{Wanted}

-- the item that is expected
abbrev pub item_of : Sign → Item
item_of (signs.Word w) = items.Word w.now
item_of (signs.Slot k) = items.Slot k
item_of (signs.Refers s) = items.Refers s
item_of (signs.Declares s) = items.Declares s
item_of signs.Number = items.Number
item_of signs.Text = items.Text
item_of signs.Tight = items.Tight

abbrev pub operator_of : Wanted → Name × (ℕ × List Item)
operator_of w = (w.name.now, (w.phylum, map item_of w.items.now))

-- name, phylum and items of an operator, and name and phylum of the elements of a list
abbrev pub key_of : Operator → Name × (ℕ × List Item)
key_of o = (o.name, (o.phylum, o.items))

abbrev pub list_key : ListKind → Name × ℕ
list_key l = (l.name, l.element)
