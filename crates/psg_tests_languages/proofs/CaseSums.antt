-- For the worked cases: sums of numbers in brackets, and lists of them.
use Rattle.std.proofs.Common.{ℕ, true, false, [], ◌∷◌, codes}
use Rattle.psg_terms.specs.Terms.{symbol}
use Rattle.psg_grammar.specs.declared.types.Kind.TheVariants as kinds
use Rattle.psg_grammar.specs.declared.types.Level.TheVariants as levels
use Rattle.psg_grammar.specs.declared.types.Item.TheVariants as items
use Rattle.psg_grammar.specs.declared.types.Operator.{Operator}
use Rattle.psg_grammar.specs.declared.types.ListKind.{ListKind}
use Rattle.psg_grammar.specs.declared.types.Definition.{Definition}
use Rattle.psg_grammar.specs.Fragments.{Fragment, operator, with_child, with_number}
use Rattle.psg_class.specs.Terminals.{Token, solo, symbols}
use Rattle.psg_grammar.proofs.CaseLanguage.{sort_id, numbers, row_of, op_of}

-- a number
abbrev pub op_number : Operator
op_number = op_of (codes "number") 0 (items.Number ∷ []) (row_of (symbol 0) [] ∷ [])

-- a sum, which groups to the left
abbrev pub op_sum : Operator
op_sum = record (op_of (codes "sum") 0 (items.Slot (kinds.Phylum 0) ∷ items.Word (codes "+") ∷ items.Slot (kinds.Phylum 0) ∷ []) (row_of (symbol 0) (symbol 0 ∷ symbol 0 ∷ []) ∷ [])) { level = levels.InfixLeft 1 }

-- a list in square brackets
abbrev pub op_all : Operator
op_all = op_of (codes "all") 0 (items.Word (codes "[") ∷ items.Slot (kinds.List 0) ∷ items.Word (codes "]") ∷ []) (row_of (symbol 0) (symbol 0 ∷ []) ∷ [])

abbrev pub list_all : ListKind
list_all = record { name = codes "All"; sort = sort_id 0; element = 0; separator = codes ","; lines = false; unfinished = true; nil_rows = symbol 0 ∷ []; cell_rows = row_of (symbol 0) (symbol 0 ∷ symbol 0 ∷ []) ∷ [] }

abbrev pub sums : Definition
sums = record {
  version = 1;
  signature = numbers;
  spaces = [];
  phyla = record { name = codes "Exp"; sort = sort_id 0; bracketed = true } ∷ [];
  lists = list_all ∷ [];
  operators = op_number ∷ op_sum ∷ op_all ∷ [];
  hole_rows = [];
  declare_rows = [];
}

abbrev pub the : ℕ → Fragment
the n = with_number (operator 0) n

abbrev pub sum_of : Fragment → Fragment → Fragment
sum_of a b = with_child (with_child (operator 1) a) b

abbrev pub all_of : Fragment → Fragment
all_of list = with_child (operator 2) list

abbrev pub add : Token
add = symbols (codes "+")

abbrev pub open_round : Token
open_round = solo 40

abbrev pub close_round : Token
close_round = solo 41

abbrev pub open_square : Token
open_square = solo 91

abbrev pub close_square : Token
close_square = solo 93

abbrev pub comma : Token
comma = solo 44
