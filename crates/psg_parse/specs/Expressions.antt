-- The language of the tests: expressions with operators of each form, lists of them, and statements that declare. How
-- differences bind and whether lists may be unfinished is a choice.
use Rattle.std.specs.Prelude.{ℕ, Bool, true, false, List, [], ◌∷◌, codes}
use Rattle.psg_grammar.specs.declared.types.Kind.TheVariants as kinds
use Rattle.psg_grammar.specs.declared.types.Level.{Level}
use Rattle.psg_grammar.specs.declared.types.Level.TheVariants as levels
use Rattle.psg_grammar.specs.declared.types.Item.{Item}
use Rattle.psg_grammar.specs.declared.types.Item.TheVariants as items
use Rattle.psg_grammar.specs.declared.types.Space.{Space}
use Rattle.psg_grammar.specs.declared.types.Phylum.{Phylum}
use Rattle.psg_grammar.specs.declared.types.ListKind.{ListKind}
use Rattle.psg_grammar.specs.declared.types.Operator.{Operator}
use Rattle.psg_grammar.specs.declared.types.Definition.{Definition}
use Rattle.psg_grammar.specs.Little.{unit_signature, unit}

abbrev pub only_space : Space
only_space = record { name = []; sort = unit }

abbrev pub phylum_of : List ℕ → Bool → Phylum
phylum_of name bracketed = record { name = name; sort = unit; bracketed = bracketed }

abbrev pub args_list : Bool → ListKind
args_list unfinished =
    record {
      name = codes "Args";
      sort = unit;
      element = 0;
      separator = codes ",";
      lines = false;
      unfinished = unfinished;
      nil_rows = [];
      cell_rows = [];
    }

abbrev pub expression : Item
expression = items.Slot (kinds.Phylum 0)

abbrev pub operator_of : List ℕ → ℕ → Level → List Item → Operator
operator_of name phylum level items =
    record { name = name; phylum = phylum; level = level; scope = false; items = items; rows = [] }

abbrev pub leaf_of : List ℕ → Item → Operator
leaf_of name item = operator_of name 0 levels.Plain (item ∷ [])

abbrev pub infix_of : List ℕ → Level → List ℕ → Operator
infix_of name level word = operator_of name 0 level (expression ∷ items.Word word ∷ expression ∷ [])

abbrev pub prefix_of : List ℕ → ℕ → List ℕ → Operator
prefix_of name n word = operator_of name 0 (levels.Prefix n) (items.Word word ∷ expression ∷ [])

abbrev pub factorial : Operator
factorial = operator_of (codes "fact") 0 (levels.Postfix 8) (expression ∷ items.Tight ∷ items.Word (codes "!") ∷ [])

abbrev pub list_of : Operator
list_of = operator_of (codes "list") 0 levels.Plain
    (items.Word (codes "[") ∷ items.Tight ∷ items.Slot (kinds.List 0) ∷ items.Tight ∷ items.Word (codes "]") ∷ [])

abbrev pub doing_items : List Item
doing_items = items.Word (codes "do") ∷ items.Slot (kinds.Phylum 1) ∷ []

abbrev pub doing : Operator
doing = record { name = codes "do"; phylum = 0; level = levels.Plain; scope = true; items = doing_items; rows = [] }

abbrev pub letting : Operator
letting = operator_of (codes "let") 1 levels.Plain
    (items.Word (codes "let") ∷ items.Declares 0 ∷ items.Word (codes "be") ∷ expression ∷ items.Word (codes "end") ∷ [])

abbrev pub operators_with : Level → List Operator
operators_with minus =
    leaf_of (codes "ex") (items.Word (codes "x"))
    ∷ leaf_of (codes "num") items.Number
    ∷ leaf_of (codes "str") items.Text
    ∷ leaf_of (codes "var") (items.Refers 0)
    ∷ infix_of (codes "plus") (levels.InfixLeft 4) (codes "+")
    ∷ infix_of (codes "minus") minus (codes "-")
    ∷ prefix_of (codes "not") 3 (codes "not")
    ∷ prefix_of (codes "neg") 6 (codes "~")
    ∷ factorial ∷ list_of ∷ doing ∷ letting ∷ []

-- A small language of expressions, as an example. It is given the level of `-`, and whether its list may be unfinished.
abbrev pub expressions : Level → Bool → Definition
expressions minus unfinished = record {
  version = 1;
  signature = unit_signature;
  spaces = only_space ∷ [];
  phyla = phylum_of (codes "Exp") true ∷ phylum_of (codes "Stm") false ∷ [];
  lists = args_list unfinished ∷ [];
  operators = operators_with minus;
  hole_rows = [];
  declare_rows = [];
}
