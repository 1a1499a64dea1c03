-- For the worked cases: the text of a definition, its lines, and the definition that they are.
use Rattle.std.proofs.Common.{ℕ, false, List, [], ◌∷◌, ◌++◌, codes, Some, None}
use Rattle.psg_terms.specs.Terms.{symbol, variable}
use Rattle.psg_terms.specs.Signature.{Signature}
use Rattle.psg_terms.specs.declared.declare.SortDecl.{SortDecl}
use Rattle.psg_grammar.specs.declared.types.Kind.TheVariants as kinds
use Rattle.psg_grammar.specs.declared.types.Level.TheVariants as levels
use Rattle.psg_grammar.specs.declared.types.Item.TheVariants as made
use Rattle.psg_grammar.specs.declared.types.Phylum.{Phylum}
use Rattle.psg_grammar.specs.declared.types.ListKind.{ListKind}
use Rattle.psg_grammar.specs.declared.types.Operator.{Operator}
use Rattle.psg_grammar.specs.declared.types.HoleRow.{HoleRow}
use Rattle.psg_grammar.specs.declared.types.Definition.{Definition}
use Rattle.psg_grammar.specs.declared.types.Specimen.{Specimen, Op', end_of-SpecimenPart, more_of-SpecimenPart}
use Rattle.psg_grammar.specs.declared.types.SpecimenPart.{Sub}
use Rattle.psg_deflines.specs.WrittenTerms as written
use Rattle.psg_deflines.specs.WrittenTrees.{WrittenTree, operator, with_tree}
use Rattle.psg_deflines.specs.Entries.{Entry}
use Rattle.psg_deflines.specs.declared.lines.LineItem.TheVariants as items
use Rattle.psg_deflines.specs.declared.lines.Line.{Line}
use Rattle.psg_deflines.specs.declared.lines.Line.TheVariants as lines
use Rattle.psg_grammar.proofs.CaseLanguage.{sort_id, constant, row_of, op_of}

-- ---- the texts of the lines

abbrev pub head_text : List ℕ
head_text = codes "psg 1"

abbrev pub comment_text : List ℕ
comment_text = codes "# one, and a box round an expression"

abbrev pub sort_text : List ℕ
sort_text = codes "sort T = int bool"

abbrev pub phylum_text : List ℕ
phylum_text = codes "phylum Exp : T"

abbrev pub list_text : List ℕ
list_text = codes "list All : T of Exp \",\" inline fixed"

abbrev pub one_text : List ℕ
one_text = codes "op one : Exp = \"one\""

abbrev pub one_row_text : List ℕ
one_row_text = codes "row int"

abbrev pub box_text : List ℕ
box_text = codes "op box:Exp = \"<\"Exp \">\""

abbrev pub box_row_text : List ℕ
box_row_text = codes "row ?a : ?a"

abbrev pub nil_text : List ℕ
nil_text = codes "nil All int"

abbrev pub cell_text : List ℕ
cell_text = codes "cell All ?rest : ?x ?rest"

abbrev pub hole_text : List ℕ
hole_text = codes "hole Exp  int by box(one)"

abbrev pub texts : List (List ℕ)
texts =
    head_text ∷ comment_text ∷ sort_text ∷ [] ∷ phylum_text ∷ list_text ∷ one_text ∷ one_row_text ∷ box_text ∷ box_row_text ∷ nil_text ∷ cell_text
    ∷ hole_text ∷ []

-- the whole text, where the first line ends with a carriage return and a line feed, and the last one with neither
abbrev pub file : List ℕ
file =
    codes "psg 1\r\n# one, and a box round an expression\nsort T = int bool\n\nphylum Exp : T\nlist All : T of Exp \",\" inline fixed\n"
    ++ (codes "op one : Exp = \"one\"\nrow int\nop box:Exp = \"<\"Exp \">\"\nrow ?a : ?a\n"
    ++ codes "nil All int\ncell All ?rest : ?x ?rest\nhole Exp  int by box(one)")

-- ---- the lines

abbrev pub sort_decl : SortDecl
sort_decl = record { name = codes "T"; constructors = record { name = codes "int"; args = [] } ∷ record { name = codes "bool"; args = [] } ∷ [] }

abbrev pub sort_line : Line
sort_line = lines.Sort sort_decl

abbrev pub phylum_line : Line
phylum_line = lines.Phylum (codes "Exp") (codes "T") false

abbrev pub list_line : Line
list_line = lines.List (codes "All") (codes "T") (codes "Exp") (codes ",") false false

abbrev pub one_line : Line
one_line = lines.Operator (codes "one") (codes "Exp") false levels.Plain (items.Word (codes "one") ∷ [])

abbrev pub one_row_line : Line
one_row_line = lines.Row (written.named (codes "int")) []

abbrev pub box_line : Line
box_line = lines.Operator (codes "box") (codes "Exp") false levels.Plain (items.Word (codes "<") ∷ items.Slot (codes "Exp") ∷ items.Word (codes ">") ∷ [])

abbrev pub box_row_line : Line
box_row_line = lines.Row (written.variable (codes "a")) (written.variable (codes "a") ∷ [])

abbrev pub nil_line : Line
nil_line = lines.Nil (codes "All") (written.named (codes "int"))

abbrev pub cell_line : Line
cell_line = lines.Cell (codes "All") (written.variable (codes "rest")) (written.variable (codes "x")) (written.variable (codes "rest"))

-- `box(one)`
abbrev pub box_of_one : WrittenTree
box_of_one = with_tree (operator (codes "box")) (operator (codes "one"))

abbrev pub hole_line : Line
hole_line = lines.Hole (codes "Exp") (written.named (codes "int")) (Some box_of_one)

-- a comment and an empty line are no lines
abbrev pub entries : List Entry
entries =
    None ∷ Some sort_line ∷ None ∷ Some phylum_line ∷ Some list_line ∷ Some one_line ∷ Some one_row_line ∷ Some box_line ∷ Some box_row_line ∷ Some nil_line ∷ Some cell_line
    ∷ Some hole_line ∷ []

-- ---- the definition

abbrev pub types : Signature
types = record { sorts = codes "T" ∷ []; symbols = constant (codes "int") 0 ∷ constant (codes "bool") 0 ∷ [] }

abbrev pub exp : Phylum
exp = record { name = codes "Exp"; sort = sort_id 0; bracketed = false }

abbrev pub op_one : Operator
op_one = op_of (codes "one") 0 (made.Word (codes "one") ∷ []) (row_of (symbol 0) [] ∷ [])

abbrev pub op_box : Operator
op_box = op_of (codes "box") 0 (made.Word (codes "<") ∷ made.Slot (kinds.Phylum 0) ∷ made.Word (codes ">") ∷ []) (row_of (variable 0 1) (variable 0 1 ∷ []) ∷ [])

-- the variables of the cell row are numbered by first occurrence: ?rest, ?x
abbrev pub all : ListKind
all = record {
  name = codes "All";
  sort = sort_id 0;
  element = 0;
  separator = codes ",";
  lines = false;
  unfinished = false;
  nil_rows = symbol 0 ∷ [];
  cell_rows = row_of (variable 0 1) (variable 0 2 ∷ variable 0 1 ∷ []) ∷ [];
}

abbrev pub specimen : Specimen
specimen = Op' 1 (tt ∷ []) (more_of-SpecimenPart (Sub (Op' 0 [] end_of-SpecimenPart)) end_of-SpecimenPart)

abbrev pub hole_int : HoleRow
hole_int = record { kind = kinds.Phylum 0; term = symbol 0; cases = record { term = symbol 0; specimen = specimen } ∷ [] }

abbrev pub boxes : Definition
boxes = record {
  version = 1;
  signature = types;
  spaces = [];
  phyla = exp ∷ [];
  lists = all ∷ [];
  operators = op_one ∷ op_box ∷ [];
  hole_rows = hole_int ∷ [];
  declare_rows = [];
}
