-- No row of a definition has more variables than the lines that write it have bytes.
use Rattle.std.proofs.Common.{◌≡◌, ℕ, ◌+◌, ◌≤◌, List, [], ◌∷◌, ◌++◌, length, length-append, map, Option, Some, None, codes, refl, arith, ◌<◌, ◌^◌}
use Rattle.psg_terms.proofs.Lists.{each_joined}
use Rattle.std.specs.Prelude.{decimal}
use Rattle.psg_terms.specs.Names.{Name}
use Rattle.psg_terms.specs.Terms.{Term}
use Rattle.psg_terms.specs.Terms as terms
use Rattle.psg_terms.specs.Canonical.{variables, variables_of}
use Rattle.psg_grammar.specs.declared.types.SpecimenHole.{SpecimenHole}
use Rattle.psg_grammar.specs.declared.types.SpecimenPart.{SpecimenPart, Sub, Name as NamePart, Number, Text}
use Rattle.psg_grammar.specs.declared.types.Specimen.{Specimen, Op', List', Hole, Row_of-Specimen, end_of-Specimen, more_of-Specimen, Row_of-SpecimenPart, end_of-SpecimenPart, more_of-SpecimenPart}
use Rattle.psg_grammar.specs.declared.types.Definition.{Definition}
use Rattle.psg_grammar.specs.Specimens.{holes_of, holes_of_part, holes_of_row, holes_of_list}
use Rattle.psg_deflines.specs.WrittenTerms.{WrittenTerm, term_parts}
use Rattle.psg_deflines.specs.WrittenTerms as written_terms
use Rattle.psg_deflines.specs.WrittenTrees.{WrittenTree, operator, place_parts, tree_parts, opened, follow, quoted_part}
use Rattle.psg_deflines.specs.Forms.{terms_parts, parts_of, columns_parts, by_parts}
use Rattle.psg_defnumber.specs.Soundness.{total}
use Rattle.psg_defnumber.proofs.TreeWeights.{total-append}
use Rattle.psg_defread.specs.WrittenLines.{term_written, kind_name, operator_name, tree_written, part_written, parts_written, elements_written, end_written, lines_of, operator_lines, row_line, nil_lines, cell_line, cell_lines, hole_lines, case_line, declare_line}
use Rattle.psg_defread.proofs.NumberRows.{place_terms, IsSmallRow, IsSmallNil, IsSmallCase}
use Rattle.std.specs.List.{AllByRecursion, flat_map}
use Rattle.psg_terms.specs.Signature.{HaveSorts}
use Rattle.psg_grammar.specs.declared.types.Row.{Row}
use Rattle.psg_grammar.specs.declared.types.Operator.{Operator}
use Rattle.psg_grammar.specs.declared.types.ListKind.{ListKind}
use Rattle.psg_grammar.specs.declared.types.Case.{Case}
use Rattle.psg_grammar.specs.declared.types.HoleRow.{HoleRow}
use Rattle.psg_grammar.specs.declared.types.DeclareRow.{DeclareRow}
use Rattle.psg_grammar.specs.Sound.{IsSound, IsRow, IsListKind}
use Rattle.psg_deflines.specs.declared.lines.Line.{Line}
use Rattle.psg_deflines.specs.declared.lines.Line.TheVariants as lines
use Rattle.psg_defnumber.proofs.LineSizes.{lines_total}
use Rattle.psg_defread.proofs.NumberAll.{all-mapped}
use Rattle.psg_defread.proofs.Blocks.{blocks, joined}
use Rattle.psg_defread.proofs.NumberOperators.{HasSmallRows}
use Rattle.psg_defread.proofs.NumberLists.{HasSmallListRows}
use Rattle.psg_defread.proofs.NumberCases.{HasSmallCases, IsSmallDeclareRow}

-- the variables of the terms of places
abbrev place_count : List SpecimenHole → ℕ
place_count [] = 0
place_count (h ∷ hs) = length (variables h.term) + place_count hs

place-count-append : (xs ys : List SpecimenHole) → place_count (xs ++ ys) ≡ place_count xs + place_count ys
place-count-append [] ys = omega arith
place-count-append (h ∷ hs) ys = omega (arith, place-count-append hs ys)

places-counted : (hs : List SpecimenHole)
    → length (variables_of (map (λ (h : SpecimenHole). h.term) hs)) ≡ place_count hs
places-counted [] = refl
places-counted (h ∷ hs) =
    omega (
      arith,
      length-append (variables h.term) (variables_of (map (λ (k : SpecimenHole). k.term) hs)),
      places-counted hs,
    )

-- a front and a middle are together no longer than the whole
both-inside : (m n : ℕ) (before middle behind : List (List ℕ)) → m ≤ total before → n ≤ total middle
    → m + n ≤ total (before ++ middle ++ behind)
both-inside m n before middle behind h k =
    omega (arith, total-append (before ++ middle) behind, total-append before middle)

module _ (def : Definition) where
  record IsLongTerm (t : Term) : Type 0 where
    whole : length (variables t) ≤ total (term_parts (term_written def t))
    front : length (variables t) ≤ total (written_terms.opened (term_written def t))

  long-term : (t : Term) → IsLongTerm t
  long-term (terms.variable s n) = record { whole = omega arith; front = omega arith }
  long-term (terms.symbol c) = record { whole = omega arith; front = omega arith }
  long-term (terms.apply f a) =
      let g = long-term f in
      let b = long-term a in
      let front = written_terms.opened (term_written def f) in
      let middle = term_parts (term_written def a) in
      let size = length-append (variables f) (variables a) in
      record {
        whole = omega (
          arith,
          size,
          both-inside (length (variables f)) (length (variables a)) front middle (codes ")" ∷ []) g.front b.whole,
        );
        front = omega (
          arith,
          size,
          both-inside (length (variables f)) (length (variables a)) front middle (codes "," ∷ []) g.front b.whole,
        );
      }

  pub term-long : (t : Term) → length (variables t) ≤ total (term_parts (term_written def t))
  term-long t = (long-term t).whole

  pub terms-long : (ts : List Term) → length (variables_of ts) ≤ total (terms_parts (map (term_written def) ts))
  terms-long [] = omega arith
  terms-long (t ∷ rest) =
      omega (
        arith,
        length-append (variables t) (variables_of rest),
        total-append (term_parts (term_written def t)) (terms_parts (map (term_written def) rest)),
        term-long t,
        terms-long rest,
      )

  -- ---- specimens

  place-long : (kind : Name) (t : Term) → length (variables t) ≤ total (place_parts kind (term_written def t))
  place-long kind t =
      omega (arith, total-append (term_parts (term_written def t)) (codes ")" ∷ []), term-long t)

  -- as a whole, and as what parts go on, or as what stands behind an element
  abbrev IsLongFront : ℕ → WrittenTree → Type 0
  IsLongFront n w = (n ≤ total (tree_parts w)) × (n ≤ total (opened w))

  abbrev IsLongList : ℕ → WrittenTree → Type 0
  IsLongList n w = (n ≤ total (tree_parts w)) × (n ≤ total (follow w))

  end-long : (rest : Option SpecimenHole)
      → IsLongList (place_count (holes_of_list end_of-Specimen rest)) (end_written def rest)
  end-long None = (omega arith, omega arith)
  end-long (Some h) =
      let place = place-long (kind_name def h.kind) h.term in
      let size = total-append (place_parts (kind_name def h.kind) (term_written def h.term)) (codes "]" ∷ []) in
      (omega (arith, place, size), omega (arith, place, size))

  plain-part : (n : ℕ) (front : WrittenTree) (part : List ℕ) → n ≤ total (opened front)
      → (n + 0 ≤ total (opened front ++ part ∷ codes ")" ∷ []))
      × (n + 0 ≤ total (opened front ++ part ∷ codes "," ∷ []))
  plain-part n front part h = (
    omega (arith, total-append (opened front) (part ∷ codes ")" ∷ [])),
    omega (arith, total-append (opened front) (part ∷ codes "," ∷ [])),
  )

  mutual
    pub tree-long : (s : Specimen) → place_count (holes_of s) ≤ total (tree_parts (tree_written def s))
    tree-long (Op' o shape parts) =
        let all = parts-long parts (operator (operator_name def o)) 0 (omega arith, omega arith) in
        omega (arith, all.0)
    tree-long (List' l shape elements rest) = (elements-long elements rest).0
    tree-long (Hole h) = omega (arith, place-long (kind_name def h.kind) h.term)

    part-long : (p : SpecimenPart) (front : WrittenTree) (n : ℕ) → IsLongFront n front
        → IsLongFront (n + place_count (holes_of_part p)) (part_written def front p)
    part-long (Sub s) front n h =
        let count = place_count (holes_of s) in
        let tree = tree_parts (tree_written def s) in
        let long = tree-long s in (
          both-inside n count (opened front) tree (codes ")" ∷ []) h.1 long,
          both-inside n count (opened front) tree (codes "," ∷ []) h.1 long,
        )
    part-long (NamePart name) front n h = plain-part n front (36 ∷ name) h.1
    part-long (Number v) front n h = plain-part n front (decimal v) h.1
    part-long (Text t) front n h = plain-part n front (quoted_part t) h.1

    parts-long : {m : _} (parts : Row_of-SpecimenPart m) (front : WrittenTree) (n : ℕ) → IsLongFront n front
        → IsLongFront (n + place_count (holes_of_row parts)) (parts_written def front parts)
    parts-long end_of-SpecimenPart front n h = let k = h.0 in let l = h.1 in (omega arith, omega arith)
    parts-long (more_of-SpecimenPart p rest) front n h =
        let first = part-long p front n h in
        let all = parts-long rest (part_written def front p) (n + place_count (holes_of_part p)) first in
        let size = place-count-append (holes_of_part p) (holes_of_row rest) in
        (omega (arith, all.0, size), omega (arith, all.1, size))

    elements-long : {m : _} (elements : Row_of-Specimen m) (rest : Option SpecimenHole)
        → IsLongList (place_count (holes_of_list elements rest)) (elements_written def elements (end_written def rest))
    elements-long end_of-Specimen rest = end-long rest
    elements-long (more_of-Specimen s elements) rest =
        let first = tree-long s in
        let behind = elements-long elements rest in
        let more = elements_written def elements (end_written def rest) in
        let size = place-count-append (holes_of s) (holes_of_list elements rest) in
        let parts = total-append (tree_parts (tree_written def s)) (follow more) in
        (omega (arith, first, behind.1, size, parts), omega (arith, first, behind.1, size, parts))

  pub places-long : (s : Specimen)
      → length (variables_of (place_terms s)) ≤ total (tree_parts (tree_written def s))
  places-long s = omega (arith, places-counted (holes_of s), tree-long s)

-- ---- lines

-- Each row has few variables, so their numbers stay distinct as they are written, and each specimen fits its places.
pub record HasSmallNumbers (def : Definition) : Type 0 where
  pub operators : AllByRecursion HasSmallRows def.operators
  pub lists : AllByRecursion HasSmallListRows def.lists
  pub hole_rows : AllByRecursion HasSmallCases def.hole_rows
  pub declare_rows : AllByRecursion IsSmallDeclareRow def.declare_rows

lines-append : (xs ys : List Line) → lines_total (xs ++ ys) ≡ lines_total xs + lines_total ys
lines-append [] ys = omega arith
lines-append (line ∷ xs) ys = omega (arith, lines-append xs ys)

-- each line, and each thing's lines, are no longer than all
map-within : {X : Type 0} (f : X → Line) (xs : List X) → lines_total (map f xs) < 2 ^ 63
    → AllByRecursion (λ x. total (parts_of (f x)) < 2 ^ 63) xs
map-within f [] h = tt
map-within f (x ∷ xs) h = (omega arith, map-within f xs (omega arith))

flat-within : {X : Type 0} (f : X → List Line) (xs : List X) → lines_total (flat_map f xs) < 2 ^ 63
    → AllByRecursion (λ x. lines_total (f x) < 2 ^ 63) xs
flat-within f [] h = tt
flat-within f (x ∷ xs) h =
    let size = lines-append (f x) (flat_map f xs) in (omega (arith, size), flat-within f xs (omega (arith, size)))

short-blocks : (bs : List (List Line)) → lines_total (joined bs) < 2 ^ 63
    → AllByRecursion (λ b. lines_total b < 2 ^ 63) bs
short-blocks [] h = tt
short-blocks (b ∷ []) h = (h, tt)
short-blocks (b ∷ c ∷ rest) h =
    let size = lines-append b (joined (c ∷ rest)) in
    (omega (arith, size, h), short-blocks (c ∷ rest) (omega (arith, size, h)))

columns-long : (ws : List WrittenTerm) → total (terms_parts ws) ≤ total (columns_parts ws)
columns-long [] = omega arith
columns-long (w ∷ ws) = omega arith

module _ (def : Definition) where
  -- ---- one line

  row-long : (row : Row) → length (variables_of (row.head ∷ row.columns)) ≤ total (parts_of (row_line def row))
  row-long row =
      let columns = map (term_written def) row.columns in
      omega (
        arith,
        length-append (variables row.head) (variables_of row.columns),
        total-append (term_parts (term_written def row.head)) (columns_parts columns),
        columns-long columns,
        term-long def row.head,
        terms-long def row.columns,
      )

  nil-long : (list : Name) (t : Term)
      → length (variables_of (t ∷ [])) ≤ total (parts_of (lines.Nil list (term_written def t)))
  nil-long list t = omega (arith, length-append (variables t) [], term-long def t)

  cell-long : (list : Name) (head : Term) (columns : List Term) (first second : ℕ)
      → HaveSorts def.signature columns (first ∷ second ∷ [])
      → length (variables_of (head ∷ columns))
      ≤ total (parts_of (cell_line def list (record { head = head; columns = columns })))
  cell-long list head [] first second h = absurd h
  cell-long list head (a ∷ []) first second h = absurd h.1
  cell-long list head (a ∷ b ∷ c ∷ more) first second h = absurd h.1.1
  cell-long list head (a ∷ b ∷ []) first second h =
      let last = term_parts (term_written def b) in
      let middle = term_parts (term_written def a) ++ last in
      omega (
        arith,
        length-append (variables head) (variables_of (a ∷ b ∷ [])),
        length-append (variables a) (variables_of (b ∷ [])),
        length-append (variables b) [],
        total-append (term_parts (term_written def head)) (codes ":" ∷ middle),
        total-append (term_parts (term_written def a)) last,
        term-long def head,
        term-long def a,
        term-long def b,
      )

  case-long : (one : Case)
      → length (variables_of (one.term ∷ place_terms one.specimen)) ≤ total (parts_of (case_line def one))
  case-long one =
      omega (
        arith,
        length-append (variables one.term) (variables_of (place_terms one.specimen)),
        total-append (term_parts (term_written def one.term)) (by_parts (Some (tree_written def one.specimen))),
        term-long def one.term,
        places-long def one.specimen,
      )

  declare-long : (row : DeclareRow)
      → length (variables_of (row.term ∷ row.value ∷ place_terms row.specimen))
      ≤ total (parts_of (declare_line def row))
  declare-long row =
      let tree = by_parts (Some (tree_written def row.specimen)) in
      let behind = term_parts (term_written def row.value) ++ tree in
      omega (
        arith,
        length-append (variables row.term) (variables_of (row.value ∷ place_terms row.specimen)),
        length-append (variables row.value) (variables_of (place_terms row.specimen)),
        total-append (term_parts (term_written def row.term)) (codes ":" ∷ behind),
        total-append (term_parts (term_written def row.value)) tree,
        term-long def row.term,
        term-long def row.value,
        places-long def row.specimen,
      )

  -- ---- all lines

  operator-small : (op : Operator) → lines_total (operator_lines def op) < 2 ^ 63 → HasSmallRows op
  operator-small op h =
      all-mapped (λ row. total (parts_of (row_line def row)) < 2 ^ 63) IsSmallRow
      (λ row k. omega (arith, k, row-long row)) op.rows (map-within (row_line def) op.rows (omega arith))

  nils-small : (l : ListKind) → lines_total (nil_lines def l) < 2 ^ 63 → AllByRecursion IsSmallNil l.nil_rows
  nils-small l h =
      all-mapped (λ t. total (parts_of (lines.Nil l.name (term_written def t))) < 2 ^ 63) IsSmallNil
      (λ t k. omega (arith, k, nil-long l.name t)) l.nil_rows
      (map-within (λ t. lines.Nil l.name (term_written def t)) l.nil_rows h)

  cells-small : (l : ListKind) → IsListKind def l → lines_total (cell_lines def l) < 2 ^ 63
      → AllByRecursion IsSmallRow l.cell_rows
  cells-small l sound h =
      each_joined (λ row. total (parts_of (cell_line def l.name row)) < 2 ^ 63)
      (IsRow def l.sort.0 (sound.element ∷ l.sort.0 ∷ [])) IsSmallRow
      (λ row k is. omega (arith, k, cell-long l.name row.head row.columns sound.element l.sort.0 is.of_columns))
      l.cell_rows (map-within (cell_line def l.name) l.cell_rows h) sound.cells

  hole-small : (row : HoleRow) → lines_total (hole_lines def row) < 2 ^ 63 → HasSmallCases row
  hole-small row h = (
    omega (
      arith,
      length-append (variables row.term) [],
      term-long def row.term,
      total-append (term_parts (term_written def row.term)) [],
    ),
    all-mapped (λ one. total (parts_of (case_line def one)) < 2 ^ 63) IsSmallCase
        (λ one k. omega (arith, k, case-long one)) row.cases (map-within (case_line def) row.cases (omega arith)),
  )

  declare-small : (row : DeclareRow) → total (parts_of (declare_line def row)) < 2 ^ 63 → IsSmallDeclareRow row
  declare-small row h = omega (arith, h, declare-long row)

  pub small-numbers : IsSound def → lines_total (lines_of def) < 2 ^ 63 → HasSmallNumbers def
  small-numbers sound h =
      let (_, (_, (_, (_, (op-lines, (nil-lines, (cell-lines, (hole-lines, (declare-lines, _))))))))) =
      short-blocks (blocks def) h in
      let nils = all-mapped (λ l. lines_total (nil_lines def l) < 2 ^ 63)
      (λ (l : ListKind). AllByRecursion IsSmallNil l.nil_rows) nils-small def.lists (flat-within (nil_lines def) def.lists nil-lines) in
      let cells = each_joined (IsListKind def) (λ l. lines_total (cell_lines def l) < 2 ^ 63)
      (λ (l : ListKind). AllByRecursion IsSmallRow l.cell_rows) cells-small def.lists sound.lists
      (flat-within (cell_lines def) def.lists cell-lines) in
      record {
        operators = all-mapped (λ op. lines_total (operator_lines def op) < 2 ^ 63) HasSmallRows operator-small
            def.operators (flat-within (operator_lines def) def.operators op-lines);
        lists = each_joined (λ (l : ListKind). AllByRecursion IsSmallNil l.nil_rows)
            (λ (l : ListKind). AllByRecursion IsSmallRow l.cell_rows) HasSmallListRows (λ l n c. (n, c)) def.lists nils
            cells;
        hole_rows = all-mapped (λ row. lines_total (hole_lines def row) < 2 ^ 63) HasSmallCases hole-small
            def.hole_rows (flat-within (hole_lines def) def.hole_rows hole-lines);
        declare_rows = all-mapped (λ row. total (parts_of (declare_line def row)) < 2 ^ 63) IsSmallDeclareRow
            declare-small def.declare_rows (map-within (declare_line def) def.declare_rows declare-lines);
      }
