-- The lists in the lines that write a definition, with their nil rows and cell rows, which stand behind the operators.
use Rattle.std.proofs.Common.{◌≡◌, ◌≢◌, inl, inr, ℕ, false, List, [], ◌∷◌, ◌++◌, map, refl, ap, sym, ◌∙◌, subst, arith}
use Rattle.std.specs.Prelude.{bytes_eq}
use Rattle.std.specs.List.{AllByRecursion, flat_map}
use Rattle.std.proofs.lemmas.Bool.{or_parts, false≢true}
use Rattle.psg_terms.proofs.Lists.{each_joined}
use Rattle.psg_terms.specs.Names.{Name, is_among, has_twice}
use Rattle.psg_terms.specs.Terms.{Term}
use Rattle.psg_terms.specs.Sound.{IsSound as IsSoundSignature}
use Rattle.psg_terms.proofs.DeclareLaws.{bytes_eq-refl}
use Rattle.psg_grammar.specs.declared.types.Kind.TheVariants as kinds
use Rattle.psg_grammar.specs.declared.types.ListKind.{ListKind}
use Rattle.psg_grammar.specs.declared.types.Phylum.{Phylum}
use Rattle.psg_grammar.specs.declared.types.Row.{Row}
use Rattle.psg_grammar.specs.declared.types.Definition.{Definition}
use Rattle.psg_grammar.specs.Sound.{IsSound}
use Rattle.psg_deflines.specs.WrittenTerms.{WrittenTerm}
use Rattle.psg_deflines.specs.declared.lines.Line.{Line}
use Rattle.psg_deflines.specs.declared.lines.Line.TheVariants as lines
use Rattle.psg_defnumber.specs.Numbers.{AreTerms, IsRow, AreNils, AreCells, IsList, AreLists}
use Rattle.psg_defread.specs.Layout.{rank}
use Rattle.psg_defread.specs.WrittenLines.{lines_of, sort_name, kind_name, term_written, term_at, list_line, nil_lines, cell_line, cell_lines}
use Rattle.psg_defread.proofs.NumberAll.{all-mapped}
use Rattle.psg_defread.proofs.NumberRows.{IsSmallNil, IsSmallRow, nil-again, row-again}
use Rattle.psg_defread.proofs.Origins.{IsFormed, OfNil, OfCell, OfList}
use Rattle.psg_defread.proofs.NumberKinds.{sort-again}
use Rattle.psg_defread.proofs.NumberOperators.{kind-renamed}
use Rattle.psg_defread.proofs.Blocks.{from_operators, from_cells, from_holes, flat-front, last-blocks, first-blocks}

abbrev pub HasSmallListRows : ListKind → Type 0
HasSmallListRows l = AllByRecursion IsSmallNil l.nil_rows × AllByRecursion IsSmallRow l.cell_rows

abbrev names_of : List ListKind → List Name
names_of all = map (λ (l : ListKind). l.name) all

abbrev IsApart : Name → ListKind → Type 0
IsApart n l = l.name ≢ n

-- ---- names

all-apart : (n : Name) (all : List ListKind) → is_among (names_of all) n ≡ false → AllByRecursion (IsApart n) all
all-apart n [] h = tt
all-apart n (l ∷ rest) h =
    let both = or_parts (bytes_eq l.name n) (is_among (names_of rest) n) h in
    ((λ e. false≢true (sym both.0 ∙ (ap (λ m. bytes_eq m n) e ∙ bytes_eq-refl n))), all-apart n rest both.1)

once-behind : (xs ys : List Name) → has_twice (xs ++ ys) ≡ false → has_twice ys ≡ false
once-behind [] ys h = h
once-behind (x ∷ xs) ys h = once-behind xs ys (or_parts (is_among (xs ++ ys) x) (has_twice (xs ++ ys)) h).1

lists-once : (def : Definition) → IsSound def → has_twice (names_of def.lists) ≡ false
lists-once def h = once-behind (map (λ (p : Phylum). p.name) def.phyla) (names_of def.lists) h.kind_names

module _ (def : Definition) where
  abbrev cell_columns : Row → List WrittenTerm
  cell_columns row = term_written def (term_at row.columns 0) ∷ term_written def (term_at row.columns 1) ∷ []

  abbrev IsCellAgain : ℕ → ℕ → Row → Type 0
  IsCellAgain sort elements row =
      IsRow def sort (elements ∷ sort ∷ []) (term_written def row.head) (cell_columns row) row

  two-columns : (names : List Name) (first second : ℕ) (v w : WrittenTerm) (columns : List Term)
      → AreTerms def.signature names (first ∷ second ∷ []) (v ∷ w ∷ []) columns
      → map (term_written def) columns
      ≡ term_written def (term_at columns 0) ∷ term_written def (term_at columns 1) ∷ []
  two-columns names first second v w columns (t, rest, h, (u, more, k, last, f), e) =
      let whole : columns ≡ t ∷ u ∷ [] = e ∙ ap (λ l. t ∷ l) (f ∙ ap (λ l. u ∷ l) last) in
      subst (λ cs. map (term_written def) cs ≡ term_written def (term_at cs 0) ∷ term_written def (term_at cs 1) ∷ [])
      (sym whole) refl

  module _ (sound : IsSoundSignature def.signature) where
    cell-again : (sort elements : ℕ) (w v u : WrittenTerm) (row : Row) → IsSmallRow row
        → IsRow def sort (elements ∷ sort ∷ []) w (v ∷ u ∷ []) row → IsCellAgain sort elements row
    cell-again sort elements w v u row small h =
        let columns = two-columns h.names elements sort v u row.columns h.of_columns in
        subst (λ ws. IsRow def sort (elements ∷ sort ∷ []) (term_written def row.head) ws row) columns
        (row-again def sound sort (elements ∷ sort ∷ []) w (v ∷ u ∷ []) row small h)

  -- ---- nil rows in the lines

  own-nils : IsSoundSignature def.signature → (list : Name) (sort : ℕ) (rows : List Term) (more : List Line)
      → AllByRecursion (OfNil def IsFormed sort list) rows → AllByRecursion IsSmallNil rows
      → AreNils def list sort more []
      → AreNils def list sort (map (λ t. lines.Nil list (term_written def t)) rows ++ more) rows
  own-nils sound list sort [] more of few none = none
  own-nils sound list sort (t ∷ rest) more of few none =
      let first = nil-again def sound sort of.0.term t few.0 of.0.is in
      inl (refl, t, rest, refl, first, own-nils sound list sort rest more of.1 few.1 none)

  other-nils : (list other : Name) (sort : ℕ) → other ≢ list → (lines_rows rows : List Term) (more : List Line)
      → AreNils def list sort more rows
      → AreNils def list sort (map (λ t. lines.Nil other (term_written def t)) lines_rows ++ more) rows
  other-nils list other sort apart [] rows more h = h
  other-nils list other sort apart (t ∷ rest) rows more h =
      inr (apart, other-nils list other sort apart rest rows more h)

  abbrev HasNoNils : List Line → Type 0
  HasNoNils tail = (list : Name) (sort : ℕ) → AreNils def list sort tail []

  no-nils : (list : Name) (sort : ℕ) (all : List ListKind) (tail : List Line) → AllByRecursion (IsApart list) all
      → HasNoNils tail → AreNils def list sort (flat_map (nil_lines def) all ++ tail) []
  no-nils list sort [] tail h none = none list sort
  no-nils list sort (l ∷ rest) tail h none =
      flat-front (λ ls. AreNils def list sort ls []) (nil_lines def) l rest tail
      (other-nils list l.name sort h.0 l.nil_rows [] (flat_map (nil_lines def) rest ++ tail)
      (no-nils list sort rest tail h.1 none))

  abbrev HasNilsIn : List Line → ListKind → Type 0
  HasNilsIn file l = AreNils def l.name l.sort.0 file l.nil_rows

  all-nils : IsSoundSignature def.signature → (all : List ListKind) (tail : List Line)
      → has_twice (names_of all) ≡ false → AllByRecursion (OfList def IsFormed) all
      → AllByRecursion HasSmallListRows all → HasNoNils tail
      → AllByRecursion (HasNilsIn (flat_map (nil_lines def) all ++ tail)) all
  all-nils sound [] tail once of few none = tt
  all-nils sound (l ∷ rest) tail once of few none =
      let both = or_parts (is_among (names_of rest) l.name) (has_twice (names_of rest)) once in
      let apart = all-apart l.name rest both.0 in
      let more = flat_map (nil_lines def) rest ++ tail in
      let first = flat-front (λ ls. HasNilsIn ls l) (nil_lines def) l rest tail
      (own-nils sound l.name l.sort.0 l.nil_rows more of.0.nils few.0.0
      (no-nils l.name l.sort.0 rest tail apart none)) in
      let behind = all-nils sound rest tail both.1 of.1 few.1 none in (
        first,
        each_joined (IsApart l.name) (HasNilsIn more) (HasNilsIn (flat_map (nil_lines def) (l ∷ rest) ++ tail))
            (λ k ne has. flat-front (λ ls. HasNilsIn ls k) (nil_lines def) l rest tail
            (other-nils k.name l.name k.sort.0 (λ e. ne (sym e)) l.nil_rows k.nil_rows more has)) rest apart behind,
      )

  nils-step : (list : Name) (sort : ℕ) (rows : List Term) (line : Line) (rest : List Line) → rank line ≢ 5
      → AreNils def list sort rest rows → AreNils def list sort (line ∷ rest) rows
  nils-step list sort rows (lines.Nil of_list w) rest h k = absurd (h refl)
  nils-step list sort rows line rest h k = k

  abbrev IsNoNil : ℕ → Type 0
  IsNoNil r = r ≢ 5

  nils-are : IsSound def → AllByRecursion (OfList def IsFormed) def.lists
      → AllByRecursion HasSmallListRows def.lists → AllByRecursion (HasNilsIn (lines_of def)) def.lists
  nils-are sound of few =
      let none : HasNoNils (from_cells def) = λ list sort.
      last-blocks 6 IsNoNil (λ ls. AreNils def list sort ls []) (nils-step list sort []) def
      (λ r k e. omega (arith, k, e)) refl in
      all-mapped (HasNilsIn (flat_map (nil_lines def) def.lists ++ from_cells def)) (HasNilsIn (lines_of def))
      (λ l has. first-blocks 5 IsNoNil (λ ls. HasNilsIn ls l) (nils-step l.name l.sort.0 l.nil_rows) def
      (λ r k e. omega (arith, k, e)) has) def.lists
      (all-nils sound.signature def.lists (from_cells def) (lists-once def sound) of few none)

  -- ---- cell rows in the lines

  own-cells : IsSoundSignature def.signature → (list : Name) (sort elements : ℕ) (rows : List Row) (more : List Line)
      → AllByRecursion (OfCell def IsFormed sort elements list) rows → AllByRecursion IsSmallRow rows
      → AreCells def list sort elements more []
      → AreCells def list sort elements (map (cell_line def list) rows ++ more) rows
  own-cells sound list sort elements [] more of few none = none
  own-cells sound list sort elements (row ∷ rest) more of few none =
      let first = cell-again sound sort elements of.0.term of.0.first of.0.more row few.0 of.0.is in
      inl (refl, row, rest, refl, first, own-cells sound list sort elements rest more of.1 few.1 none)

  other-cells : (list other : Name) (sort elements : ℕ) → other ≢ list → (lines_rows rows : List Row)
      (more : List Line) → AreCells def list sort elements more rows
      → AreCells def list sort elements (map (cell_line def other) lines_rows ++ more) rows
  other-cells list other sort elements apart [] rows more h = h
  other-cells list other sort elements apart (row ∷ rest) rows more h =
      inr (apart, other-cells list other sort elements apart rest rows more h)

  abbrev HasNoCells : List Line → Type 0
  HasNoCells tail = (list : Name) (sort elements : ℕ) → AreCells def list sort elements tail []

  no-cells : (list : Name) (sort elements : ℕ) (all : List ListKind) (tail : List Line)
      → AllByRecursion (IsApart list) all → HasNoCells tail
      → AreCells def list sort elements (flat_map (cell_lines def) all ++ tail) []
  no-cells list sort elements [] tail h none = none list sort elements
  no-cells list sort elements (l ∷ rest) tail h none =
      flat-front (λ ls. AreCells def list sort elements ls []) (cell_lines def) l rest tail
      (other-cells list l.name sort elements h.0 l.cell_rows [] (flat_map (cell_lines def) rest ++ tail)
      (no-cells list sort elements rest tail h.1 none))

  -- with the sort of its elements
  abbrev HasCellsIn : List Line → ListKind → Type 0
  HasCellsIn file l =
      (elements : ℕ) → AllByRecursion (OfCell def IsFormed l.sort.0 elements l.name) l.cell_rows
      → AllByRecursion IsSmallRow l.cell_rows → AreCells def l.name l.sort.0 elements file l.cell_rows

  all-cells : IsSoundSignature def.signature → (all : List ListKind) (tail : List Line)
      → has_twice (names_of all) ≡ false → HasNoCells tail
      → AllByRecursion (HasCellsIn (flat_map (cell_lines def) all ++ tail)) all
  all-cells sound [] tail once none = tt
  all-cells sound (l ∷ rest) tail once none =
      let both = or_parts (is_among (names_of rest) l.name) (has_twice (names_of rest)) once in
      let apart = all-apart l.name rest both.0 in
      let more = flat_map (cell_lines def) rest ++ tail in
      let first : HasCellsIn (flat_map (cell_lines def) (l ∷ rest) ++ tail) l = λ elements of few.
      flat-front (λ ls. AreCells def l.name l.sort.0 elements ls l.cell_rows) (cell_lines def) l rest tail
      (own-cells sound l.name l.sort.0 elements l.cell_rows more of few
      (no-cells l.name l.sort.0 elements rest tail apart none)) in
      let behind = all-cells sound rest tail both.1 none in (
        first,
        each_joined (IsApart l.name) (HasCellsIn more) (HasCellsIn (flat_map (cell_lines def) (l ∷ rest) ++ tail))
            (λ k ne has elements of few.
            flat-front (λ ls. AreCells def k.name k.sort.0 elements ls k.cell_rows) (cell_lines def) l rest tail
            (other-cells k.name l.name k.sort.0 elements (λ e. ne (sym e)) l.cell_rows k.cell_rows more
            (has elements of few))) rest apart behind,
      )

  cells-step : (list : Name) (sort elements : ℕ) (rows : List Row) (line : Line) (rest : List Line) → rank line ≢ 6
      → AreCells def list sort elements rest rows → AreCells def list sort elements (line ∷ rest) rows
  cells-step list sort elements rows (lines.Cell of_list w v u) rest h k = absurd (h refl)
  cells-step list sort elements rows line rest h k = k

  abbrev IsNoCell : ℕ → Type 0
  IsNoCell r = r ≢ 6

  cells-are : IsSound def → AllByRecursion (HasCellsIn (lines_of def)) def.lists
  cells-are sound =
      let none : HasNoCells (from_holes def) = λ list sort elements.
      last-blocks 7 IsNoCell (λ ls. AreCells def list sort elements ls []) (cells-step list sort elements []) def
      (λ r k e. omega (arith, k, e)) refl in
      all-mapped (HasCellsIn (flat_map (cell_lines def) def.lists ++ from_holes def)) (HasCellsIn (lines_of def))
      (λ l has elements of few.
      first-blocks 6 IsNoCell (λ ls. AreCells def l.name l.sort.0 elements ls l.cell_rows)
      (cells-step l.name l.sort.0 elements l.cell_rows) def (λ r k e. omega (arith, k, e))
      (has elements of few)) def.lists
      (all-cells sound.signature def.lists (from_holes def) (lists-once def sound) none)

  -- ---- lists

  lists-in : (file : List Line) (all : List ListKind) (tail : List Line) → AllByRecursion (OfList def IsFormed) all
      → AllByRecursion HasSmallListRows all → AllByRecursion (HasNilsIn file) all
      → AllByRecursion (HasCellsIn file) all → AreLists def file tail []
      → AreLists def file (map (list_line def) all ++ tail) all
  lists-in file [] tail of few nils cells none = none
  lists-in file (l ∷ rest) tail of few nils cells none =
      let is = of.0.is in
      let first : IsList def file l.name (sort_name def l.sort.0) (kind_name def (kinds.Phylum l.element)) l.separator
      l.lines l.unfinished l = record {
        named = refl;
        of_sort = sort-again def of.0.sort l.sort is.of_sort;
        of_elements = kind-renamed def of.0.elements (kinds.Phylum l.element) is.of_elements;
        same_separator = refl;
        same_lines = refl;
        same_end = refl;
        nils = nils.0;
        element_sort = is.element_sort;
        elements_sort = is.elements_sort;
        cells = cells.0 is.element_sort of.0.cells few.0.1;
      } in
      (l, rest, refl, first, lists-in file rest tail of.1 few.1 nils.1 cells.1 none)

  lists-step : (file : List Line) (all : List ListKind) (line : Line) (rest : List Line) → rank line ≢ 3
      → AreLists def file rest all → AreLists def file (line ∷ rest) all
  lists-step file all (lines.List name sort elements separator on_lines unfinished) rest h k = absurd (h refl)
  lists-step file all line rest h k = k

  abbrev IsNoList : ℕ → Type 0
  IsNoList r = r ≢ 3

  pub lists-are : IsSound def → AllByRecursion (OfList def IsFormed) def.lists
      → AllByRecursion HasSmallListRows def.lists → AreLists def (lines_of def) (lines_of def) def.lists
  lists-are sound of few =
      let none = last-blocks 4 IsNoList (λ ls. AreLists def (lines_of def) ls []) (lists-step (lines_of def) []) def
      (λ r k e. omega (arith, k, e)) refl in
      first-blocks 3 IsNoList (λ ls. AreLists def (lines_of def) ls def.lists) (lists-step (lines_of def) def.lists) def
      (λ r k e. omega (arith, k, e))
      (lists-in (lines_of def) def.lists (from_operators def) of few (nils-are sound of few) (cells-are sound) none)
