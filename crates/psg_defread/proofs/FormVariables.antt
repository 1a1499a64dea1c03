-- The variables of each of the lines that write a definition are numbered by first occurrence.
use Rattle.std.proofs.Common.{◌≡◌, inl, inr, ℕ, zero, suc, ◌+◌, ◌<◌, ◌^◌, ◌||◌, true, false, cond, if◌then◌else◌, List, [], ◌∷◌, ◌++◌, length, length-append, map, refl, ap, sym, ◌∙◌, subst, arith}
use Rattle.std.specs.Prelude.{decimal, bytes_eq}
use Rattle.std.specs.List.{AllByRecursion}
use Rattle.std.proofs.lemmas.Bool.{or_from, or_left, or_right, false≢true, cases_Bool}
use Rattle.std.proofs.lemmas.List.{map-append}
use Rattle.psg_terms.proofs.Lists.{each_joined}
use Rattle.psg_terms.specs.Names.{Name, is_among}
use Rattle.psg_terms.specs.Terms.{Term}
use Rattle.psg_terms.specs.Terms as terms
use Rattle.psg_terms.specs.Canonical.{Variable, variables, variables_of, same_variable, is_noted, noted, noted_all, first_occurrences, IsNumberedFrom}
use Rattle.psg_terms.proofs.DeclareLaws.{bytes_eq-refl}
use Rattle.psg_terms.proofs.RenamingLaws.{noted_all-append}
use Rattle.psg_terms.proofs.Variables.{same_variable-true}
use Rattle.psg_grammar.specs.declared.types.Definition.{Definition}
use Rattle.psg_defnumber.proofs.ListLaws.{cons-same}
use Rattle.psg_defread.specs.Layout.{met_in, met_in_all, numbers_from, line_terms, HasNumberedVariables}
use Rattle.psg_defread.specs.WrittenLines.{term_written, lines_of, space_line, phylum_line, list_line, row_line, operator_lines, nil_lines, cell_line, cell_lines, case_line, hole_lines, declare_line}
use Rattle.psg_defread.proofs.NumberTerms.{HasFewVariables, noted-all-front, numbered-front, noted-short}
use Rattle.psg_defread.proofs.NumberNames.{decimals-apart}
use Rattle.psg_grammar.specs.declared.types.Kind.{Kind}
use Rattle.psg_grammar.specs.declared.types.Row.{Row}
use Rattle.psg_grammar.specs.declared.types.ListKind.{ListKind}
use Rattle.psg_grammar.specs.declared.types.Operator.{Operator}
use Rattle.psg_grammar.specs.declared.types.Case.{Case}
use Rattle.psg_grammar.specs.declared.types.HoleRow.{HoleRow}
use Rattle.psg_grammar.specs.declared.types.DeclareRow.{DeclareRow}
use Rattle.psg_deflines.specs.WrittenTerms.{WrittenTerm}
use Rattle.psg_deflines.specs.declared.lines.Line.{Line}
use Rattle.psg_deflines.specs.declared.lines.Line.TheVariants as lines
use Rattle.psg_defnumber.specs.Numbers.{AreTerms}
use Rattle.psg_defnumber.proofs.LineSizes.{lines_total}
use Rattle.psg_defread.proofs.WasRead.{WasRead}
use Rattle.psg_defread.proofs.NumberRows.{IsSmallRow, IsSmallNil, IsSmallCase, place_terms}
use Rattle.psg_defread.proofs.NumberOperators.{HasSmallRows}
use Rattle.psg_defread.proofs.NumberLists.{HasSmallListRows}
use Rattle.psg_defread.proofs.NumberCases.{HasSmallCases, IsSmallDeclareRow}
use Rattle.psg_defread.proofs.NumberSmall.{HasSmallNumbers, small-numbers}
use Rattle.psg_defread.proofs.Blocks.{all-lines, map-all, mapped, flattened, sorts-all}
use Rattle.psg_defread.proofs.Origins.{OfRow, OfOperator, OfNil, OfCell, OfList, OfCase, OfHoleRow, OfDeclareRow, Origins, IsFormed, read-from}
use Rattle.psg_defread.proofs.FormTrees.{places-written}

-- the names of variables as they are written
abbrev known_names : List Variable → List Name
known_names seen = map (λ (x : Variable). decimal x.1) seen

-- counted from 1, and few enough that different numbers have different names
record IsCounted (seen : List Variable) : Type 0 where
  numbered : IsNumberedFrom 1 seen
  few : length seen < 2 ^ 63

counted-front : (xs ys : List Variable) → IsCounted (xs ++ ys) → IsCounted xs
counted-front xs ys h = record {
  numbered = numbered-front 1 xs ys h.numbered;
  few = omega (arith, h.few, length-append xs ys);
}

-- ---- one variable

met-known : (x : Variable) (seen : List Variable) → is_noted x seen ≡ true
    → is_among (known_names seen) (decimal x.1) ≡ true
met-known x [] h = absurd (false≢true h)
met-known x (y ∷ ys) h = elim (cases_Bool (same_variable x y)) [
  | inl e ↦
      let same : x ≡ y = same_variable-true x y e in
      let named : bytes_eq (decimal y.1) (decimal x.1) ≡ true =
      subst (λ (z : Variable). bytes_eq (decimal z.1) (decimal x.1) ≡ true) same (bytes_eq-refl (decimal x.1)) in
      or_left (bytes_eq (decimal y.1) (decimal x.1)) (is_among (known_names ys) (decimal x.1)) named
  | inr e ↦
      let behind : is_noted x ys ≡ true = sym (ap (λ b. b || is_noted x ys) e) ∙ h in
      or_right (bytes_eq (decimal y.1) (decimal x.1)) (is_among (known_names ys) (decimal x.1)) (met-known x ys behind)
]

abbrev IsBefore : ℕ → Variable → Type 0
IsBefore n y = y.1 < n

met-new : (n : ℕ) (seen : List Variable) → n < 2 ^ 64 → AllByRecursion (IsBefore n) seen
    → is_among (known_names seen) (decimal n) ≡ false
met-new n [] limit h = refl
met-new n (y ∷ ys) limit h =
    or_from (bytes_eq (decimal y.1) (decimal n)) (is_among (known_names ys) (decimal n))
    (decimals-apart y.1 n (λ e. (let k = h.0 in omega (arith, k, e))) (let k = h.0 in omega (arith, k, limit)) limit) (met-new n ys limit h.1)

record IsLast (n : ℕ) (seen : List Variable) (x : Variable) : Type 0 where
  number : x.1 ≡ n + length seen
  before : AllByRecursion (IsBefore x.1) seen

numbered-last : (n : ℕ) (seen : List Variable) (x : Variable) → IsNumberedFrom n (seen ++ x ∷ []) → IsLast n seen x
numbered-last n [] x h = let e : x.1 ≡ n = h.0 in record { number = omega (arith, e); before = tt }
numbered-last n (y ∷ ys) x h =
    let e : y.1 ≡ n = h.0 in
    let last = numbered-last (n + 1) ys x h.1 in
    record { number = omega (arith, last.number); before = (omega (arith, e, last.number), last.before) }

abbrev met_next : List Variable → Variable → List Name
met_next seen x =
    cond (is_among (known_names seen) (decimal x.1)) (known_names seen) (known_names seen ++ decimal x.1 ∷ [])

met-variable : (x : Variable) (seen : List Variable) → IsCounted (noted seen x)
    → met_next seen x ≡ known_names (noted seen x)
met-variable x seen h = elim (cases_Bool (is_noted x seen)) [
  | inl e ↦
      let still : noted seen x ≡ seen = ap (λ b. if b then seen else seen ++ x ∷ []) e in
      ap (λ b. cond b (known_names seen) (known_names seen ++ decimal x.1 ∷ [])) (met-known x seen e)
      ∙ ap known_names (sym still)
  | inr e ↦
      let grown : noted seen x ≡ seen ++ x ∷ [] = ap (λ b. if b then seen else seen ++ x ∷ []) e in
      let counted = subst IsCounted grown h in
      let last = numbered-last 1 seen x counted.numbered in
      let small : x.1 < 2 ^ 64 = omega (arith, last.number, counted.few, length-append seen (x ∷ [])) in
      ap (λ b. cond b (known_names seen) (known_names seen ++ decimal x.1 ∷ []))
      (met-new x.1 seen small last.before)
      ∙ (sym (map-append (λ (y : Variable). decimal y.1) seen (x ∷ [])) ∙ ap known_names (sym grown))
]

-- ---- terms and rows

-- both of two parts are counted
record AreCounted (seen xs ys : List Variable) : Type 0 where
  whole : noted_all seen (xs ++ ys) ≡ noted_all (noted_all seen xs) ys
  first : IsCounted (noted_all seen xs)
  both : IsCounted (noted_all (noted_all seen xs) ys)

counted-parts : (seen xs ys : List Variable) → IsCounted (noted_all seen (xs ++ ys)) → AreCounted seen xs ys
counted-parts seen xs ys h =
    let whole = noted_all-append seen xs ys in
    let both = subst IsCounted whole h in
    let (more, e) = noted-all-front (noted_all seen xs) ys in
    record {
      whole = whole;
      first = counted-front (noted_all seen xs) more (subst IsCounted e both);
      both = both;
    }

module _ (def : Definition) where
  met-term : (t : Term) (seen : List Variable) → IsCounted (noted_all seen (variables t))
      → met_in (term_written def t) (known_names seen) ≡ known_names (noted_all seen (variables t))
  met-term (terms.variable s n) seen h = met-variable (s, n) seen h
  met-term (terms.symbol c) seen h = refl
  met-term (terms.apply f a) seen h =
      let p = counted-parts seen (variables f) (variables a) h in
      ap (met_in (term_written def a)) (met-term f seen p.first)
      ∙ (met-term a (noted_all seen (variables f)) p.both ∙ ap known_names (sym p.whole))

  met-row : (row : List Term) (seen : List Variable) → IsCounted (noted_all seen (variables_of row))
      → met_in_all (map (term_written def) row) (known_names seen) ≡ known_names (noted_all seen (variables_of row))
  met-row [] seen h = refl
  met-row (t ∷ rest) seen h =
      let p = counted-parts seen (variables t) (variables_of rest) h in
      ap (met_in_all (map (term_written def) rest)) (met-term t seen p.first)
      ∙ (met-row rest (noted_all seen (variables t)) p.both ∙ ap known_names (sym p.whole))

named-from : (n : ℕ) (xs : List Variable) → IsNumberedFrom n xs → (k : ℕ) × (known_names xs ≡ numbers_from n k)
named-from n [] h = (zero, refl)
named-from n (x ∷ xs) h =
    let (k, e) = named-from (n + 1) xs h.1 in
    (suc k, cons-same (decimal x.1) (decimal n) (known_names xs) (numbers_from (n + 1) k) (ap decimal h.0) e)

-- the variables of these terms are met in the order of their numbers
abbrev pub AreMetInOrder : Definition → List Term → Type 0
AreMetInOrder def row = (k : ℕ) × (met_in_all (map (term_written def) row) [] ≡ numbers_from 1 k)

pub met-in-order : (def : Definition) (row : List Term) → HasFewVariables row
    → IsNumberedFrom 1 (first_occurrences row) → AreMetInOrder def row
met-in-order def row few h =
    let short = noted-short [] (variables_of row) in
    let counted : IsCounted (first_occurrences row) =
    record { numbered = h; few = omega (arith, short, few) } in
    let (k, e) = named-from 1 (first_occurrences row) h in
    (k, met-row def row [] counted ∙ e)

-- ---- lines

-- these terms are met in the order of their numbers
abbrev HasNumbered : List WrittenTerm → Type 0
HasNumbered ts = (k : ℕ) × (met_in_all ts [] ≡ numbers_from 1 k)

module _ (def : Definition) where
  -- ---- one line

  row-numbered : (head : ℕ) (sorts : List ℕ) (row : Row) → OfRow def IsFormed head sorts row → IsSmallRow row → HasNumberedVariables (row_line def row)
  row-numbered head sorts row of small = met-in-order def (row.head ∷ row.columns) small of.is.naming.first

  nil-numbered : (sort : ℕ) (list : Name) (t : Term) → OfNil def IsFormed sort list t → IsSmallNil t
      → HasNumberedVariables (lines.Nil list (term_written def t))
  nil-numbered sort list t of small = met-in-order def (t ∷ []) small of.is.naming.first

  -- a cell row has two columns
  two-terms : (list : Name) (head : Term) (names : List Name) (first second : ℕ) (v w : WrittenTerm)
      (columns : List Term) → AreTerms def.signature names (first ∷ second ∷ []) (v ∷ w ∷ []) columns
      → line_terms (cell_line def list (record { head = head; columns = columns }))
      ≡ map (term_written def) (head ∷ columns)
  two-terms list head names first second v w columns (t, rest, h, (u, more, k, last, f), e) =
      let whole : columns ≡ t ∷ u ∷ [] = e ∙ ap (λ l. t ∷ l) (f ∙ ap (λ l. u ∷ l) last) in
      subst (λ cs. line_terms (cell_line def list (record { head = head; columns = cs }))
      ≡ map (term_written def) (head ∷ cs)) (sym whole) refl

  cell-numbered : (sort elements : ℕ) (list : Name) (row : Row) → OfCell def IsFormed sort elements list row
      → IsSmallRow row
      → HasNumberedVariables (cell_line def list row)
  cell-numbered sort elements list row of small =
      let same = two-terms list row.head of.is.names elements sort of.first of.more row.columns
      of.is.of_columns in
      subst HasNumbered (sym same) (met-in-order def (row.head ∷ row.columns) small of.is.naming.first)

  case-numbered : (kind : Kind) (sort : ℕ) (one : Case) → OfCase def IsFormed kind sort one → IsSmallCase one
      → HasNumberedVariables (case_line def one)
  case-numbered kind sort one of small =
      let same = ap (λ ts. term_written def one.term ∷ ts) (places-written def one.specimen) in
      subst HasNumbered (sym same)
      (met-in-order def (one.term ∷ place_terms one.specimen) small of.is.naming.first)

  declare-numbered : (row : DeclareRow) → OfDeclareRow def IsFormed row → IsSmallDeclareRow row
      → HasNumberedVariables (declare_line def row)
  declare-numbered row of small =
      let same = ap (λ ts. term_written def row.term ∷ term_written def row.value ∷ ts)
      (places-written def row.specimen) in
      subst HasNumbered (sym same)
      (met-in-order def (row.term ∷ row.value ∷ place_terms row.specimen) small of.is.naming.first)

  -- ---- the lines of one thing

  abbrev AreNumbered : List Line → Type 0
  AreNumbered ls = AllByRecursion HasNumberedVariables ls

  operator-numbered : (op : Operator) → OfOperator def IsFormed op → HasSmallRows op
      → AreNumbered (operator_lines def op)
  operator-numbered op of small =
      let rows = each_joined (OfRow def IsFormed of.is.sort of.is.columns) IsSmallRow
      (λ row. HasNumberedVariables (row_line def row)) (row-numbered of.is.sort of.is.columns) op.rows of.rows small in
      ((0, refl), mapped HasNumberedVariables (row_line def) op.rows rows)

  nils-numbered : (l : ListKind) → OfList def IsFormed l → HasSmallListRows l → AreNumbered (nil_lines def l)
  nils-numbered l of small =
      let line : Term → Line = λ t. lines.Nil l.name (term_written def t) in
      mapped HasNumberedVariables line l.nil_rows (each_joined (OfNil def IsFormed l.sort.0 l.name) IsSmallNil
      (λ t. HasNumberedVariables (line t)) (nil-numbered l.sort.0 l.name) l.nil_rows of.nils small.0)

  cells-numbered : (l : ListKind) → OfList def IsFormed l → HasSmallListRows l → AreNumbered (cell_lines def l)
  cells-numbered l of small =
      mapped HasNumberedVariables (cell_line def l.name) l.cell_rows
      (each_joined (OfCell def IsFormed l.sort.0 of.is.element_sort l.name) IsSmallRow
      (λ row. HasNumberedVariables (cell_line def l.name row)) (cell-numbered l.sort.0 of.is.element_sort l.name)
      l.cell_rows of.cells small.1)

  hole-numbered : (row : HoleRow) → OfHoleRow def IsFormed row → HasSmallCases row
      → AreNumbered (hole_lines def row)
  hole-numbered row of small =
      let cases = each_joined (OfCase def IsFormed row.kind of.sort) IsSmallCase
      (λ one. HasNumberedVariables (case_line def one)) (case-numbered row.kind of.sort) row.cases of.cases small.1 in (
        met-in-order def (row.term ∷ []) small.0 of.is.naming.first,
        mapped HasNumberedVariables (case_line def) row.cases cases,
      )

  -- ---- all lines

  lines-numbered : Origins def IsFormed → HasSmallNumbers def → AreNumbered (lines_of def)
  lines-numbered of small =
      let joined = each_joined (OfOperator def IsFormed) HasSmallRows (λ op. AreNumbered (operator_lines def op))
      operator-numbered def.operators of.operators small.operators in
      let nils = each_joined (OfList def IsFormed) HasSmallListRows (λ l. AreNumbered (nil_lines def l))
      nils-numbered def.lists of.lists small.lists in
      let cells = each_joined (OfList def IsFormed) HasSmallListRows (λ l. AreNumbered (cell_lines def l))
      cells-numbered def.lists of.lists small.lists in
      let holes = each_joined (OfHoleRow def IsFormed) HasSmallCases (λ row. AreNumbered (hole_lines def row))
      hole-numbered def.hole_rows of.hole_rows small.hole_rows in
      let declares = each_joined (OfDeclareRow def IsFormed) IsSmallDeclareRow
      (λ row. HasNumberedVariables (declare_line def row)) declare-numbered def.declare_rows of.declare_rows
      small.declare_rows in
      all-lines HasNumberedVariables def (record {
        sorts = sorts-all HasNumberedVariables def (λ n name. ((0, refl), tt)) 0 def.signature.sorts;
        entities = map-all HasNumberedVariables (space_line def) (λ s. (0, refl)) def.spaces;
        phyla = map-all HasNumberedVariables (phylum_line def) (λ p. (0, refl)) def.phyla;
        lists = map-all HasNumberedVariables (list_line def) (λ l. (0, refl)) def.lists;
        operators = flattened HasNumberedVariables (operator_lines def) def.operators joined;
        nils = flattened HasNumberedVariables (nil_lines def) def.lists nils;
        cells = flattened HasNumberedVariables (cell_lines def) def.lists cells;
        holes = flattened HasNumberedVariables (hole_lines def) def.hole_rows holes;
        declares = mapped HasNumberedVariables (declare_line def) def.declare_rows declares;
      })

-- The bound keeps the numbers of a row's variables distinct as they are written: a decimal has 64 digits at most.
pub written_variables : (def : Definition) → WasRead def → lines_total (lines_of def) < 2 ^ 63
    → AllByRecursion HasNumberedVariables (lines_of def)
written_variables def h short =
    lines-numbered def (read-from def h) (small-numbers def h.sound short)
