-- The grammar of a definition in which nothing declares, so that each phylum has a placeholder.
use Rattle.std.specs.Prelude.{List, [], ◌∷◌, map}
use Rattle.psg_grammar.specs.declared.types.Definition.{Definition}
use Rattle.psg_grammar.specs.declared.types.Item.{Item}
use Rattle.psg_grammar.specs.declared.types.Item.TheVariants as items
use Rattle.psg_grammar.specs.declared.types.ListKind.{ListKind}
use Rattle.psg_grammar.specs.declared.types.Operator.{Operator}
use Rattle.psg_grammar.specs.declared.types.Phylum.{Phylum}
use Rattle.psg_grammar.specs.declared.types.Space.{Space}
use Rattle.psg_grammar.specs.Little.{unit, unit_signature}

-- a name that is declared is one that is used
abbrev pub quiet_item : Item → Item
quiet_item (items.Word w) = items.Word w
quiet_item (items.Slot k) = items.Slot k
quiet_item (items.Refers s) = items.Refers s
quiet_item (items.Declares s) = items.Refers s
quiet_item items.Number = items.Number
quiet_item items.Text = items.Text
quiet_item items.Space = items.Space
quiet_item items.Tight = items.Tight
quiet_item items.Line = items.Line
quiet_item items.In = items.In
quiet_item items.Out = items.Out

abbrev pub quiet_operator : Operator → Operator
quiet_operator o = record {
  name = o.name;
  phylum = o.phylum;
  level = o.level;
  scope = o.scope;
  items = map quiet_item o.items;
  rows = [];
}

abbrev pub plain_space : Space → Space
plain_space s = record { name = s.name; sort = unit }

abbrev pub plain_phylum : Phylum → Phylum
plain_phylum p = record { name = p.name; sort = unit; bracketed = p.bracketed }

abbrev pub plain_list : ListKind → ListKind
plain_list l = record {
  name = l.name;
  sort = unit;
  element = l.element;
  separator = l.separator;
  lines = l.lines;
  unfinished = l.unfinished;
  nil_rows = [];
  cell_rows = [];
}

-- its trees have the same tokens as those of the definition, except the placeholders of phyla that declare there
abbrev pub quiet : Definition → Definition
quiet def = record {
  version = def.version;
  signature = unit_signature;
  spaces = map plain_space def.spaces;
  phyla = map plain_phylum def.phyla;
  lists = map plain_list def.lists;
  operators = map quiet_operator def.operators;
  hole_rows = [];
  declare_rows = [];
}
