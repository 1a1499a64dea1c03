-- Two languages for the worked cases: one with two spaces, scopes and an unfinished list, and one of constants alone.
use Rattle.std.proofs.Common.{ℕ, true, false, List, [], ◌∷◌, codes, None}
use Rattle.psg_terms.specs.Terms.{Term, variable, symbol}
use Rattle.psg_terms.specs.Signature.{Signature, Symbol}
use Rattle.psg_terms.specs.declared.sorts.SortId.{SortId}
use Rattle.psg_grammar.specs.declared.types.Kind.TheVariants as kinds
use Rattle.psg_grammar.specs.declared.types.Level.TheVariants as levels
use Rattle.psg_grammar.specs.declared.types.Item.{Item}
use Rattle.psg_grammar.specs.declared.types.Item.TheVariants as items
use Rattle.psg_grammar.specs.declared.types.Row.{Row}
use Rattle.psg_grammar.specs.declared.types.Operator.{Operator}
use Rattle.psg_grammar.specs.declared.types.ListKind.{ListKind}
use Rattle.psg_grammar.specs.declared.types.HoleRow.{HoleRow}
use Rattle.psg_grammar.specs.declared.types.DeclareRow.{DeclareRow}
use Rattle.psg_grammar.specs.declared.types.Definition.{Definition}
use Rattle.psg_grammar.specs.declared.types.Specimen.{Specimen, Op', List', end_of-Specimen, end_of-SpecimenPart, more_of-SpecimenPart}
use Rattle.psg_grammar.specs.declared.types.SpecimenPart.{Sub, Name}
use Rattle.psg_grammar.specs.Fragments.{Fragment, operator, with_child, with_name}

abbrev pub sort_id : ℕ → SortId
sort_id n = record { 0 = n }

-- a constructor without arguments
abbrev pub constant : List ℕ → ℕ → Symbol
constant name sort = record { name = name; arguments = []; sort = sort }

abbrev pub row_of : Term → List Term → Row
row_of head columns = record { head = head; columns = columns }

abbrev pub op_of : List ℕ → ℕ → List Item → List Row → Operator
op_of name phylum items rows = record { name = name; phylum = phylum; level = levels.Plain; scope = false; items = items; rows = rows }

-- ---- the spaces val and lab, and the sorts Unit and Ty

abbrev pub sig : Signature
sig = record { sorts = codes "Unit" ∷ codes "Ty" ∷ []; symbols = constant (codes "ok") 0 ∷ constant (codes "int") 1 ∷ constant (codes "bool") 1 ∷ [] }

abbrev pub ok : Term
ok = symbol 0

abbrev pub int : Term
int = symbol 1

abbrev pub bool : Term
bool = symbol 2

-- `{` a list of items `}`
abbrev pub op_blk : Operator
op_blk = record (op_of (codes "blk") 1 (items.Word (codes "{") ∷ items.Slot (kinds.List 0) ∷ items.Word (codes "}") ∷ []) (row_of ok (ok ∷ []) ∷ [])) { scope = true }

-- `let` a value `=` an expression
abbrev pub op_let : Operator
op_let = op_of (codes "let") 1 (items.Word (codes "let") ∷ items.Declares 0 ∷ items.Word (codes "=") ∷ items.Slot (kinds.Phylum 0) ∷ []) (row_of ok (variable 1 1 ∷ variable 1 1 ∷ []) ∷ [])

-- `mark` a label, and `jump` to one
abbrev pub op_mark : Operator
op_mark = op_of (codes "mark") 1 (items.Word (codes "mark") ∷ items.Declares 1 ∷ []) (row_of ok (ok ∷ []) ∷ [])

abbrev pub op_jump : Operator
op_jump = op_of (codes "jump") 1 (items.Word (codes "jump") ∷ items.Refers 1 ∷ []) (row_of ok (ok ∷ []) ∷ [])

abbrev pub op_ref : Operator
op_ref = op_of (codes "ref") 0 (items.Refers 0 ∷ []) (row_of (variable 1 1) (variable 1 1 ∷ []) ∷ [])

abbrev pub op_one : Operator
op_one = op_of (codes "one") 0 (items.Word (codes "one") ∷ []) (row_of int [] ∷ [])

abbrev pub op_yes : Operator
op_yes = op_of (codes "yes") 0 (items.Word (codes "yes") ∷ []) (row_of bool [] ∷ [])

abbrev pub list_items : ListKind
list_items = record { name = codes "Items"; sort = sort_id 0; element = 1; separator = codes ";"; lines = true; unfinished = true; nil_rows = ok ∷ []; cell_rows = row_of ok (ok ∷ ok ∷ []) ∷ [] }

-- an operator over one name
abbrev pub over_name : ℕ → List ℕ → Specimen
over_name o n = Op' o (tt ∷ []) (more_of-SpecimenPart (Name n) end_of-SpecimenPart)

-- `let $it = ..` of an operator without parts
abbrev pub let_it : ℕ → Specimen
let_it o = Op' 1 (tt ∷ tt ∷ []) (more_of-SpecimenPart (Name (codes "it")) (more_of-SpecimenPart (Sub (Op' o [] end_of-SpecimenPart)) end_of-SpecimenPart))

abbrev pub hole_exp : HoleRow
hole_exp = record { kind = kinds.Phylum 0; term = variable 1 1; cases = record { term = variable 1 1; specimen = over_name 4 (codes "a") } ∷ [] }

abbrev pub hole_item : HoleRow
hole_item = record { kind = kinds.Phylum 1; term = ok; cases = record { term = ok; specimen = over_name 2 (codes "a") } ∷ [] }

abbrev pub hole_items : HoleRow
hole_items = record { kind = kinds.List 0; term = ok; cases = record { term = ok; specimen = List' 0 [] end_of-Specimen None } ∷ [] }

abbrev pub declare_let : Term → ℕ → DeclareRow
declare_let t o = record { space = 0; list = 0; term = t; value = ok; specimen = let_it o }

abbrev pub declare_mark : DeclareRow
declare_mark = record { space = 1; list = 0; term = ok; value = ok; specimen = over_name 2 (codes "it") }

abbrev pub spaces : Definition
spaces = record {
  version = 2;
  signature = sig;
  spaces = record { name = codes "val"; sort = sort_id 1 } ∷ record { name = codes "lab"; sort = sort_id 0 } ∷ [];
  phyla = record { name = codes "Exp"; sort = sort_id 1; bracketed = false } ∷ record { name = codes "Item"; sort = sort_id 0; bracketed = false } ∷ [];
  lists = list_items ∷ [];
  operators = op_blk ∷ op_let ∷ op_mark ∷ op_jump ∷ op_ref ∷ op_one ∷ op_yes ∷ [];
  hole_rows = hole_exp ∷ hole_item ∷ hole_items ∷ [];
  declare_rows = declare_let int 5 ∷ declare_let bool 6 ∷ declare_mark ∷ [];
}

abbrev pub one : Fragment
one = operator 5

abbrev pub yes : Fragment
yes = operator 6

abbrev pub ref_to : List ℕ → Fragment
ref_to n = with_name (operator 4) n

abbrev pub let_of : List ℕ → Fragment → Fragment
let_of n e = with_child (with_name (operator 1) n) e

abbrev pub mark_of : List ℕ → Fragment
mark_of n = with_name (operator 2) n

abbrev pub jump_to : List ℕ → Fragment
jump_to n = with_name (operator 3) n

abbrev pub block : Fragment → Fragment
block list = with_child (operator 0) list

-- ---- constants alone: zero, tru, plus of two expressions

abbrev pub numbers : Signature
numbers = record { sorts = codes "Type" ∷ []; symbols = constant (codes "int") 0 ∷ constant (codes "bool") 0 ∷ [] }

abbrev pub op_zero : Operator
op_zero = op_of (codes "zero") 0 (items.Word (codes "zero") ∷ []) (row_of (symbol 0) [] ∷ [])

abbrev pub op_tru : Operator
op_tru = op_of (codes "tru") 0 (items.Word (codes "true") ∷ []) (row_of (symbol 1) [] ∷ [])

abbrev pub op_plus : Operator
op_plus = op_of (codes "plus") 0 (items.Word (codes "(") ∷ items.Slot (kinds.Phylum 0) ∷ items.Word (codes "+") ∷ items.Slot (kinds.Phylum 0) ∷ items.Word (codes ")") ∷ []) (row_of (symbol 0) (symbol 0 ∷ symbol 0 ∷ []) ∷ [])

-- the values of a placeholder by an operator without parts
abbrev pub hole_by : Term → ℕ → HoleRow
hole_by t o = record { kind = kinds.Phylum 0; term = t; cases = record { term = t; specimen = Op' o [] end_of-SpecimenPart } ∷ [] }

abbrev pub constants : Definition
constants = record {
  version = 1;
  signature = numbers;
  spaces = [];
  phyla = record { name = codes "Exp"; sort = sort_id 0; bracketed = false } ∷ [];
  lists = [];
  operators = op_zero ∷ op_tru ∷ op_plus ∷ [];
  hole_rows = hole_by (symbol 0) 0 ∷ hole_by (symbol 1) 1 ∷ [];
  declare_rows = [];
}

abbrev pub zero_leaf : Fragment
zero_leaf = operator 0

abbrev pub plus_of : Fragment → Fragment → Fragment
plus_of a b = with_child (with_child (operator 2) a) b
