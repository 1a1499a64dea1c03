-- The lines that write a definition. Names are in place of positions, and a variable's name is its number.
use Rattle.std.specs.Prelude.{ℕ, ◌+◌, ◌==◌, cond, Option, Some, None, List, [], ◌∷◌, ◌++◌, map, get_or, decimal}
use Rattle.std.specs.List.{flat_map}
use Rattle.psg_terms.specs.Names.{Name}
use Rattle.psg_terms.specs.Terms.{Term}
use Rattle.psg_terms.specs.Terms as terms
use Rattle.psg_terms.specs.Signature.{Symbol}
use Rattle.psg_terms.specs.declared.declare.ConDecl.{ConDecl}
use Rattle.psg_grammar.specs.declared.types.Kind.{Kind}
use Rattle.psg_grammar.specs.declared.types.Kind.TheVariants as kinds
use Rattle.psg_grammar.specs.declared.types.Item.{Item}
use Rattle.psg_grammar.specs.declared.types.Item.TheVariants as made
use Rattle.psg_grammar.specs.declared.types.Phylum.{Phylum}
use Rattle.psg_grammar.specs.declared.types.ListKind.{ListKind}
use Rattle.psg_grammar.specs.declared.types.Operator.{Operator}
use Rattle.psg_grammar.specs.declared.types.Row.{Row}
use Rattle.psg_grammar.specs.declared.types.Space.{Space}
use Rattle.psg_grammar.specs.declared.types.Case.{Case}
use Rattle.psg_grammar.specs.declared.types.HoleRow.{HoleRow}
use Rattle.psg_grammar.specs.declared.types.DeclareRow.{DeclareRow}
use Rattle.psg_grammar.specs.declared.types.SpecimenHole.{SpecimenHole}
use Rattle.psg_grammar.specs.declared.types.SpecimenPart.{SpecimenPart, Sub, Name as NamePart, Number, Text}
use Rattle.psg_grammar.specs.declared.types.Specimen.{Specimen, Op', List', Hole, Row_of-Specimen, end_of-Specimen}
use Rattle.psg_grammar.specs.declared.types.Specimen.{more_of-Specimen, Row_of-SpecimenPart, end_of-SpecimenPart}
use Rattle.psg_grammar.specs.declared.types.Specimen.{more_of-SpecimenPart}
use Rattle.psg_grammar.specs.declared.types.Definition.{Definition}
use Rattle.psg_deflines.specs.WrittenTerms.{WrittenTerm, variable, named, apply}
use Rattle.psg_deflines.specs.WrittenTrees.{WrittenTree, operator, with_tree, with_name, with_number, with_text}
use Rattle.psg_deflines.specs.WrittenTrees.{list_end, list_rest, element, place}
use Rattle.psg_deflines.specs.declared.lines.LineItem.{LineItem}
use Rattle.psg_deflines.specs.declared.lines.LineItem.TheVariants as items
use Rattle.psg_deflines.specs.declared.lines.Line.{Line}
use Rattle.psg_deflines.specs.declared.lines.Line.TheVariants as lines

-- the name of what is at the position
abbrev pub name_at : {X : Type 0} → (X → Name) → List X → ℕ → Name
name_at name xs n = get_or (map name xs) n []

-- the term at the position
abbrev pub term_at : List Term → ℕ → Term
term_at ts n = get_or ts n (terms.symbol 0)

module _ (def : Definition) where
  abbrev pub sort_name : ℕ → Name
  sort_name s = name_at (λ n. n) def.signature.sorts s

  abbrev pub constructor_name : ℕ → Name
  constructor_name c = name_at (λ (s : Symbol). s.name) def.signature.symbols c

  abbrev pub operator_name : ℕ → Name
  operator_name o = name_at (λ (x : Operator). x.name) def.operators o

  abbrev pub kind_name : Kind → Name
  kind_name (kinds.Phylum p) = name_at (λ (k : Phylum). k.name) def.phyla p
  kind_name (kinds.List l) = name_at (λ (k : ListKind). k.name) def.lists l

  abbrev pub space_name : ℕ → Name
  space_name s = name_at (λ (x : Space). x.name) def.spaces s

  abbrev pub term_written : Term → WrittenTerm
  term_written (terms.variable s n) = variable (decimal n)
  term_written (terms.symbol c) = named (constructor_name c)
  term_written (terms.apply f a) = apply (term_written f) (term_written a)

  abbrev pub place_written : SpecimenHole → WrittenTree
  place_written h = place (kind_name h.kind) (term_written h.term)

  abbrev pub end_written : Option SpecimenHole → WrittenTree
  end_written None = list_end
  end_written (Some h) = list_rest (kind_name h.kind) (term_written h.term)

  abbrev mutual
    pub tree_written : Specimen → WrittenTree
    tree_written (Op' o shape parts) = parts_written (operator (operator_name o)) parts
    tree_written (List' l shape elements rest) = elements_written elements (end_written rest)
    tree_written (Hole h) = place_written h

    pub part_written : WrittenTree → SpecimenPart → WrittenTree
    part_written front (Sub s) = with_tree front (tree_written s)
    part_written front (NamePart n) = with_name front n
    part_written front (Number v) = with_number front (decimal v)
    part_written front (Text t) = with_text front t

    pub parts_written : {m : _} → WrittenTree → Row_of-SpecimenPart m → WrittenTree
    parts_written front end_of-SpecimenPart = front
    parts_written front (more_of-SpecimenPart p rest) = parts_written (part_written front p) rest

    pub elements_written : {m : _} → Row_of-Specimen m → WrittenTree → WrittenTree
    elements_written end_of-Specimen end = end
    elements_written (more_of-Specimen s rest) end = element (tree_written s) (elements_written rest end)

  -- the constructors of the sort, in order
  abbrev pub constructors_written : ℕ → List Symbol → List ConDecl
  constructors_written sort [] = []
  constructors_written sort (s ∷ rest) =
      cond (s.sort == sort) (record { name = s.name; args = map sort_name s.arguments }
      ∷ constructors_written sort rest) (constructors_written sort rest)

  -- the sorts from the number on
  abbrev pub sort_lines : ℕ → List Name → List Line
  sort_lines n [] = []
  sort_lines n (name ∷ rest) = lines.Sort
      (record { name = name; constructors = constructors_written n def.signature.symbols }) ∷ sort_lines (n + 1) rest

  abbrev pub space_line : Space → Line
  space_line s = lines.Space s.name (sort_name s.sort.0)

  abbrev pub phylum_line : Phylum → Line
  phylum_line p = lines.Phylum p.name (sort_name p.sort.0) p.bracketed

  abbrev pub list_line : ListKind → Line
  list_line l =
      lines.List l.name (sort_name l.sort.0) (kind_name (kinds.Phylum l.element)) l.separator l.lines l.unfinished

  abbrev pub item_written : Item → LineItem
  item_written (made.Word w) = items.Word w
  item_written (made.Slot k) = items.Slot (kind_name k)
  item_written (made.Refers s) = items.Refers (space_name s)
  item_written (made.Declares s) = items.Declares (space_name s)
  item_written made.Number = items.Number
  item_written made.Text = items.Text
  item_written made.Space = items.Space
  item_written made.Tight = items.Tight
  item_written made.Line = items.Line
  item_written made.In = items.In
  item_written made.Out = items.Out

  abbrev pub row_line : Row → Line
  row_line r = lines.Row (term_written r.head) (map term_written r.columns)

  -- an operator with its rows after it
  abbrev pub operator_lines : Operator → List Line
  operator_lines o = lines.Operator o.name (kind_name (kinds.Phylum o.phylum)) o.scope o.level
      (map item_written o.items) ∷ map row_line o.rows

  abbrev pub nil_lines : ListKind → List Line
  nil_lines l = map (λ t. lines.Nil l.name (term_written t)) l.nil_rows

  abbrev pub cell_line : Name → Row → Line
  cell_line list r =
      lines.Cell list (term_written r.head) (term_written (term_at r.columns 0)) (term_written (term_at r.columns 1))

  abbrev pub cell_lines : ListKind → List Line
  cell_lines l = map (cell_line l.name) l.cell_rows

  abbrev pub case_line : Case → Line
  case_line c = lines.Case (term_written c.term) (tree_written c.specimen)

  -- a hole row with its cases after it
  abbrev pub hole_lines : HoleRow → List Line
  hole_lines r = lines.Hole (kind_name r.kind) (term_written r.term) None ∷ map case_line r.cases

  abbrev pub declare_line : DeclareRow → Line
  declare_line d = lines.Declare (space_name d.space) (kind_name (kinds.List d.list)) (term_written d.term)
      (term_written d.value) (tree_written d.specimen)

  -- Sorts, spaces, phyla, lists, operators each with its rows, nil rows, cell rows, hole rows each with its cases,
  -- declare rows.
  abbrev pub lines_of : List Line
  lines_of =
      sort_lines 0 def.signature.sorts
      ++ (map space_line def.spaces ++ (map phylum_line def.phyla ++ (map list_line def.lists
      ++ (flat_map operator_lines def.operators ++ (flat_map nil_lines def.lists ++ (flat_map cell_lines def.lists
      ++ (flat_map hole_lines def.hole_rows ++ map declare_line def.declare_rows)))))))
