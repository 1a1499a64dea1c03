-- The small language of the tests: blocks, groups and items. An item declares a value or a label; a block keeps what
-- its items declare, a group does not.
use Rattle.std.specs.Prelude.{ℕ, true, false, List, [], ◌∷◌, codes}
use Rattle.psg_terms.specs.Signature.{Signature}
use Rattle.psg_terms.specs.declared.declare.SortDecl.{SortDecl}
use Rattle.psg_terms.specs.declared.sorts.SortId.{SortId}
use Rattle.psg_grammar.specs.declared.types.Kind.TheVariants as kinds
use Rattle.psg_grammar.specs.declared.types.Level.TheVariants as levels
use Rattle.psg_grammar.specs.declared.types.Item.{Item}
use Rattle.psg_grammar.specs.declared.types.Item.TheVariants as items
use Rattle.psg_grammar.specs.declared.types.Space.{Space}
use Rattle.psg_grammar.specs.declared.types.Phylum.{Phylum}
use Rattle.psg_grammar.specs.declared.types.ListKind.{ListKind}
use Rattle.psg_grammar.specs.declared.types.Operator.{Operator}
use Rattle.psg_grammar.specs.declared.types.Definition.{Definition}

-- the only sort
abbrev pub unit : SortId
unit = record { 0 = 0 }

-- as it is written
abbrev pub unit_sort : SortDecl
unit_sort = record { name = codes "Unit"; constructors = record { name = codes "ok"; args = [] } ∷ [] }

-- the signature with this sort and its constant
abbrev pub unit_signature : Signature
unit_signature =
    record { sorts = codes "Unit" ∷ []; symbols = record { name = codes "ok"; arguments = []; sort = 0 } ∷ [] }

-- a space with the name
abbrev pub space_named : List ℕ → Space
space_named name = record { name = name; sort = unit }

-- a phylum with the name
abbrev pub phylum_named : List ℕ → Phylum
phylum_named name = record { name = name; sort = unit; bracketed = false }

-- an operator of the phylum with these items, without a level or rows
abbrev pub operator_named : List ℕ → ℕ → List Item → Operator
operator_named name phylum items =
    record { name = name; phylum = phylum; level = levels.Plain; scope = false; items = items; rows = [] }

-- values and labels
abbrev pub little_spaces : List Space
little_spaces = space_named (codes "val") ∷ space_named (codes "lab") ∷ []

-- expressions, items, and groups
abbrev pub little_phyla : List Phylum
little_phyla = phylum_named (codes "Exp") ∷ phylum_named (codes "Item") ∷ phylum_named (codes "Group") ∷ []

-- lists of items
abbrev pub items_list : ListKind
items_list = record {
  name = codes "Items";
  sort = unit;
  element = 1;
  separator = codes ";";
  lines = true;
  unfinished = true;
  nil_rows = [];
  cell_rows = [];
}

-- the operators: only a block begins a region
abbrev pub little_operators : List Operator
little_operators =
    record (operator_named (codes "blk") 0 (items.Slot (kinds.List 0) ∷ [])) { scope = true }
    ∷ operator_named (codes "group") 2 (items.Slot (kinds.List 0) ∷ [])
    ∷ operator_named (codes "let") 1 (items.Declares 0 ∷ items.Slot (kinds.Phylum 0) ∷ [])
    ∷ operator_named (codes "mark") 1 (items.Declares 1 ∷ []) ∷ []

-- the whole language
abbrev pub little : Definition
little = record {
  version = 2;
  signature = unit_signature;
  spaces = little_spaces;
  phyla = little_phyla;
  lists = items_list ∷ [];
  operators = little_operators;
  hole_rows = [];
  declare_rows = [];
}
