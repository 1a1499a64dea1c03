-- The lines that write the rows of a definition keep what is said of the lines of its file.
use Rattle.std.proofs.Common.{◌≡◌, ℕ, suc, None, List, [], ◌∷◌, length, map, ap, sym, ◌∙◌, subst, arith}
use Rattle.std.specs.List.{AllByRecursion}
use Rattle.psg_terms.specs.Names.{Name}
use Rattle.psg_terms.specs.Terms.{Term}
use Rattle.psg_grammar.specs.declared.types.Kind.{Kind}
use Rattle.psg_grammar.specs.declared.types.Kind.TheVariants as kinds
use Rattle.psg_grammar.specs.declared.types.Item.{Item}
use Rattle.psg_grammar.specs.declared.types.Row.{Row}
use Rattle.psg_grammar.specs.declared.types.ListKind.{ListKind}
use Rattle.psg_grammar.specs.declared.types.Operator.{Operator}
use Rattle.psg_grammar.specs.declared.types.Case.{Case}
use Rattle.psg_grammar.specs.declared.types.HoleRow.{HoleRow}
use Rattle.psg_grammar.specs.declared.types.DeclareRow.{DeclareRow}
use Rattle.psg_grammar.specs.declared.types.Definition.{Definition}
use Rattle.psg_deflines.specs.declared.lines.LineItem.{LineItem}
use Rattle.psg_deflines.specs.declared.lines.LineItem.TheVariants as items
use Rattle.psg_deflines.specs.declared.lines.Line.{Line}
use Rattle.psg_deflines.specs.declared.lines.Line.TheVariants as lines
use Rattle.psg_defnumber.specs.Numbers.{IsItem, AreItems, IsNumbered}
use Rattle.psg_defread.specs.WrittenLines.{lines_of, kind_name, space_name, list_line, item_written, row_line, operator_lines, nil_lines, cell_line, cell_lines, case_line, hole_lines, declare_line, term_written}
use Rattle.psg_defread.proofs.NumberAll.{all-mapped}
use Rattle.psg_defread.proofs.NumberNames.{name-found}
use Rattle.psg_defread.proofs.Blocks.{all-lines, mapped, flattened}
use Rattle.psg_defread.proofs.Origins.{OfRow, OfOperator, OfNil, OfCell, OfList, OfCase, OfHoleRow, OfDeclareRow, origins}
use Rattle.psg_defread.proofs.FormSorts.{sorts-keep, spaces-keep, phyla-keep}
use Rattle.psg_defread.proofs.FormTrees.{kind-named}

module _ (def : Definition) where
  -- ---- operators and lists are written by the lines that they come from

  -- what is said of items is said of them as they are written, where it is said of name positions of every space
  item-keep : (P : LineItem → Type 0) → ((n : ℕ) → P (items.Refers (space_name def n))) → ((n : ℕ) → P (items.Declares (space_name def n))) → (w : LineItem) (i : Item) → P w → IsItem def w i → P (item_written def i)
  item-keep P r d (items.Word w) i h e = subst P (sym (ap (item_written def) e)) h
  item-keep P r d (items.Slot n) i h (k, is, e) = subst P (sym (ap (item_written def) e ∙ ap items.Slot (kind-named def n k is))) h
  item-keep P r d (items.Refers n) i h (s, is, e) = subst P (sym (ap (item_written def) e)) (r s)
  item-keep P r d (items.Declares n) i h (s, is, e) = subst P (sym (ap (item_written def) e)) (d s)
  item-keep P r d items.Number i h e = subst P (sym (ap (item_written def) e)) h
  item-keep P r d items.Text i h e = subst P (sym (ap (item_written def) e)) h
  item-keep P r d items.Space i h e = subst P (sym (ap (item_written def) e)) h
  item-keep P r d items.Tight i h e = subst P (sym (ap (item_written def) e)) h
  item-keep P r d items.Line i h e = subst P (sym (ap (item_written def) e)) h
  item-keep P r d items.In i h e = subst P (sym (ap (item_written def) e)) h
  item-keep P r d items.Out i h e = subst P (sym (ap (item_written def) e)) h

  pub items-keep : (P : LineItem → Type 0) → ((n : ℕ) → P (items.Refers (space_name def n))) → ((n : ℕ) → P (items.Declares (space_name def n))) → (ws : List LineItem) (all : List Item) → AllByRecursion P ws → AreItems def ws all
      → AllByRecursion P (map (item_written def) all)
  items-keep P r d [] all h e = subst (λ is. AllByRecursion P (map (item_written def) is)) (sym e) tt
  items-keep P r d (w ∷ ws) all h (i, rest, e, is, more) =
      subst (λ is. AllByRecursion P (map (item_written def) is)) (sym e) (item-keep P r d w i h.0 is, items-keep P r d ws rest h.1 more)

  pub items-long : (ws : List LineItem) (all : List Item) → AreItems def ws all → length (map (item_written def) all) ≡ length ws
  items-long [] all e = ap (λ (is : List Item). length (map (item_written def) is)) e
  items-long (w ∷ ws) all (i, rest, e, is, more) =
      let long : length (map (item_written def) all) ≡ suc (length (map (item_written def) rest)) =
      ap (λ (xs : List Item). length (map (item_written def) xs)) e in
      omega (arith, long, items-long ws rest more)

  abbrev pub operator_line : Operator → Line
  operator_line o =
      lines.Operator o.name (kind_name def (kinds.Phylum o.phylum)) o.scope o.level (map (item_written def) o.items)

  list-line : (P : Line → Type 0) (l : ListKind) → OfList def P l → P (list_line def l)
  list-line P l of =
      let name = of.is.named in
      let sort = name-found (λ (n : Name). n) def.signature.sorts l.sort.0 of.sort of.is.of_sort in
      let elements = kind-named def of.elements (kinds.Phylum l.element) of.is.of_elements in
      let separator = of.is.same_separator in
      let on_lines = of.is.same_lines in
      let end = of.is.same_end in
      let same : list_line def l
      ≡ lines.List of.name of.sort of.elements of.separator of.on_lines of.unfinished =
      λ i. lines.List (name i) (sort i) (elements i) (separator i) (on_lines i) (end i) in
      subst P (sym same) of.given

  -- ---- rows keep what is said of the lines that they come from

  pub record Keeps (P : Line → Type 0) : Type 0 where
    pub operator : (op : Operator) → OfOperator def P op → P (operator_line op)
    pub row : (head : ℕ) (sorts : List ℕ) (row : Row) → OfRow def P head sorts row → P (row_line def row)
    pub nil : (sort : ℕ) (list : Name) (t : Term) → OfNil def P sort list t → P (lines.Nil list (term_written def t))
    pub cell : (sort elements : ℕ) (list : Name) (row : Row) → OfCell def P sort elements list row
        → P (cell_line def list row)
    pub hole : (row : HoleRow) → OfHoleRow def P row
        → P (lines.Hole (kind_name def row.kind) (term_written def row.term) None)
    pub case : (kind : Kind) (sort : ℕ) (one : Case) → OfCase def P kind sort one → P (case_line def one)
    pub declare : (row : DeclareRow) → OfDeclareRow def P row → P (declare_line def row)

  module _ (P : Line → Type 0) (keeps : Keeps P) where
    operator-keeps : (op : Operator) → OfOperator def P op → AllByRecursion P (operator_lines def op)
    operator-keeps op of = (
      keeps.operator op of,
      mapped P (row_line def) op.rows
          (all-mapped (OfRow def P of.is.sort of.is.columns) (λ row. P (row_line def row))
          (keeps.row of.is.sort of.is.columns) op.rows of.rows),
    )

    nils-keep : (l : ListKind) → OfList def P l → AllByRecursion P (nil_lines def l)
    nils-keep l of =
        let line : Term → Line = λ t. lines.Nil l.name (term_written def t) in
        mapped P line l.nil_rows (all-mapped (OfNil def P l.sort.0 l.name) (λ t. P (line t))
        (keeps.nil l.sort.0 l.name) l.nil_rows of.nils)

    cells-keep : (l : ListKind) → OfList def P l → AllByRecursion P (cell_lines def l)
    cells-keep l of =
        mapped P (cell_line def l.name) l.cell_rows (all-mapped (OfCell def P l.sort.0 of.is.element_sort l.name)
        (λ row. P (cell_line def l.name row)) (keeps.cell l.sort.0 of.is.element_sort l.name) l.cell_rows of.cells)

    hole-keeps : (row : HoleRow) → OfHoleRow def P row → AllByRecursion P (hole_lines def row)
    hole-keeps row of = (
      keeps.hole row of,
      mapped P (case_line def) row.cases
          (all-mapped (OfCase def P row.kind of.sort) (λ one. P (case_line def one)) (keeps.case row.kind of.sort)
          row.cases of.cases),
    )

    -- and so all lines
    pub lines-keep : {version : ℕ} (file : List Line) → AllByRecursion P file → IsNumbered version file def
        → AllByRecursion P (lines_of def)
    lines-keep file given numbered =
        let of = origins def P file given numbered in
        let lists = all-mapped (OfList def P) (λ l. P (list_line def l)) (list-line P) def.lists of.lists in
        let operators = all-mapped (OfOperator def P) (λ op. AllByRecursion P (operator_lines def op)) operator-keeps
        def.operators of.operators in
        let nils = all-mapped (OfList def P) (λ l. AllByRecursion P (nil_lines def l)) nils-keep def.lists of.lists in
        let cells = all-mapped (OfList def P) (λ l. AllByRecursion P (cell_lines def l)) cells-keep def.lists
        of.lists in
        let holes = all-mapped (OfHoleRow def P) (λ row. AllByRecursion P (hole_lines def row)) hole-keeps
        def.hole_rows of.hole_rows in
        let declares = all-mapped (OfDeclareRow def P) (λ row. P (declare_line def row)) keeps.declare
        def.declare_rows of.declare_rows in
        all-lines P def (record {
          sorts = sorts-keep def P file given numbered.signature;
          entities = spaces-keep def P file given numbered.spaces;
          phyla = phyla-keep def P file def.phyla given numbered.phyla;
          lists = mapped P (list_line def) def.lists lists;
          operators = flattened P (operator_lines def) def.operators operators;
          nils = flattened P (nil_lines def) def.lists nils;
          cells = flattened P (cell_lines def) def.lists cells;
          holes = flattened P (hole_lines def) def.hole_rows holes;
          declares = mapped P (declare_line def) def.declare_rows declares;
        })
