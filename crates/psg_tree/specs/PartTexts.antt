-- The texts of an operator's parts.
use Rattle.std.specs.Prelude.{ℕ, List, decimal}
use Rattle.psg_grammar.specs.declared.types.Definition.{Definition}
use Rattle.psg_tree.specs.declared.tree.Part.{Part}
use Rattle.psg_tree.specs.declared.tree.Part.TheVariants.{Sub, Name, Number, Text}
use Rattle.psg_tree.specs.AbstractText.{abstract_text, quoted}

-- the abstract text of a part
abbrev pub part_text : Definition → Part → List ℕ
part_text def (Sub t) = abstract_text def t
part_text def (Name n) = n
part_text def (Number x) = decimal x
part_text def (Text t) = quoted t
