-- The lines of operators with their rows, of nil rows and of cell rows pass the tests of their meaning.
use Rattle.std.proofs.Common.{◌≡◌, ℕ, Some, None, List, [], ◌∷◌, ◌++◌, length, map, refl, sym, ◌∙◌, subst, ◌<◌, zero, suc, slice_get, ap}
use Rattle.std.specs.List.{AllByRecursion}
use Rattle.std.proofs.lemmas.List.{length-map}
use Rattle.psg_terms.proofs.OneRelation.{sorts_length}
use Rattle.psg_terms.specs.Terms.{Term}
use Rattle.psg_terms.specs.Canonical.{first_occurrences, IsNumberedFrom}
use Rattle.psg_grammar.specs.declared.types.Kind.TheVariants as kinds
use Rattle.psg_grammar.specs.declared.types.Operator.{Operator}
use Rattle.psg_grammar.specs.declared.types.Row.{Row}
use Rattle.psg_grammar.specs.declared.types.Definition.{Definition}
use Rattle.psg_grammar.specs.Lookups.{part_items}
use Rattle.psg_grammar.specs.Sound.{IsSound, IsOperator, IsRow, HasKindSort, AreColumns, IsListKind, IsTermOf}
use Rattle.psg_deflines.specs.declared.lines.Line.{Line}
use Rattle.psg_deflines.specs.declared.lines.Line.TheVariants as lines
use Rattle.psg_defcheck.specs.Scopes.{last_operator, kind_declared, value_place, element_place}
use Rattle.psg_defcheck.specs.Meanings.{IsColumnCount, SortsTerm, SortAll, SortsRow}
use Rattle.psg_defcheck.proofs.AboveLaws.{last_operator-append}
use Rattle.psg_defread.specs.WrittenLines.{kind_name, term_written, item_written, row_line, operator_lines, nil_lines, cell_line, cell_lines}
use Rattle.psg_defread.proofs.NumberRows.{IsSmallRow, IsSmallNil}
use Rattle.psg_defread.proofs.NumberOperators.{HasSmallRows}
use Rattle.psg_defread.proofs.PassedTests.{PassesRest, AreRight, IsRightBlock, IsRight, right-map}
use Rattle.psg_defread.proofs.PassedDeclared.{Declares, operator_written, phylum-known, value-placed, list_told, place_of, list-known, list-placed, element-placed}
use Rattle.psg_defread.proofs.PassedTerms.{row-sorts, term-passes, terms-pass}
use Rattle.psg_defread.proofs.PassedItems.{items-known, items-entity, columns-placed, columns-counted}
use Rattle.psg_defread.proofs.Origins.{IsFormed, OfRow, OfOperator, OfNil, OfCell, OfList}
use Rattle.std.specs.Option.{option_and_then}
use Rattle.psg_grammar.specs.declared.types.ListKind.{ListKind}
use Rattle.psg_defread.proofs.NumberLists.{HasSmallListRows}

module _ (def : Definition) (sound : IsSound def) (file : List Line) (declares : Declares def file) where
  module _ (op : Operator) (sort : ℕ) (columns : List ℕ) (of_phylum : HasKindSort def (kinds.Phylum op.phylum) sort)
      (are : AreColumns def (part_items op.items) columns) where
    row-right : (row : Row) → IsSmallRow row → IsNumberedFrom 1 (first_occurrences (row.head ∷ row.columns))
        → IsRow def sort columns row → (above : List Line)
        → last_operator None above ≡ Some (operator_written def op) → PassesRest file above (row_line def row)
    row-right row few read is above last =
        let v = row-sorts def (row.head ∷ row.columns) few read in
        let head = term-passes def sound file declares v.sorts row.head [] sort v.each.0 is.of_head.0 in
        let rest = terms-pass def sound file declares v.sorts columns row.columns v.each.1 is.of_columns in
        let w = term_written def row.head in
        let ws = map (term_written def) row.columns in
        let size = columns-counted def sound file declares op.items columns are
        ∙ sym (sorts_length def.signature row.columns columns is.of_columns)
        ∙ sym (length-map row.columns (term_written def)) in
        let at_head = subst (λ at. SortsTerm file v.sorts [] at w)
        (sym (value-placed def sound file declares (kinds.Phylum op.phylum) sort of_phylum)) head.sorted in
        let at_columns = subst (λ places. SortAll file v.sorts places ws)
        (sym (columns-placed def sound file declares op.items columns are)) rest.sorted in
        record {
          known = (head.known, rest.known);
          counted = (head.counted, rest.counted, subst (λ o. IsColumnCount o (length ws)) (sym last) size);
          sorted = (v.sorts, subst (λ o. SortsRow file v.sorts o w ws) (sym last) (at_head, at_columns));
          entity = tt;
          ground = tt;
          choice = tt;
        }

    rows-right : (head : ℕ) (sorts : List ℕ) (rows : List Row) → AllByRecursion IsSmallRow rows
        → AllByRecursion (OfRow def IsFormed head sorts) rows → AllByRecursion (IsRow def sort columns) rows → (above : List Line)
        → last_operator None above ≡ Some (operator_written def op) → AreRight file above (map (row_line def) rows)
    rows-right head sorts [] few read is above last = tt
    rows-right head sorts (row ∷ rows) few read is above last =
        let next = last_operator-append None above (row_line def row ∷ []) ∙ last in (
          row-right row few.0 read.0.is.naming.first is.0 above last,
          rows-right head sorts rows few.1 read.1 is.1 (above ++ row_line def row ∷ []) next,
        )

  operator-right : (op : Operator) → HasSmallRows op → OfOperator def IsFormed op → IsOperator def op
      → (above : List Line) → AreRight file above (operator_lines def op)
  operator-right op few read is above =
      let line = lines.Operator op.name (kind_name def (kinds.Phylum op.phylum)) op.scope op.level
      (map (item_written def) op.items) in
      let first : PassesRest file above line = record {
        known = (
          phylum-known def sound file declares op.phylum is.sort is.phylum_sort,
          items-known def sound file declares op.items is.each_item,
        );
        counted = tt;
        sorted = ((λ m. m), tt);
        entity = items-entity def sound file declares op.items is.each_item;
        ground = tt;
        choice = tt;
      } in
      let last = last_operator-append None above (line ∷ []) in
      let rows = rows-right op is.sort is.columns is.phylum_sort is.are_columns read.is.sort read.is.columns op.rows few
      read.rows is.each_row
      (above ++ line ∷ []) last in
      (first, rows)

  pub operators-right : (all : List Operator) → AllByRecursion HasSmallRows all
      → AllByRecursion (OfOperator def IsFormed) all → AllByRecursion (IsOperator def) all → AllByRecursion (λ op. IsRightBlock file (operator_lines def op)) all
  operators-right [] few read is = tt
  operators-right (op ∷ all) few read is =
      (operator-right op few.0 read.0 is.0, operators-right all few.1 read.1 is.1)

-- ---- nil rows and cell rows

-- what holds of what stands at each place holds of each element
pub all-at : {X : Type 0} (P : X → Type 0) (xs : List X) → ((i : ℕ) (x : X) → slice_get xs i ≡ Some x → P x)
    → AllByRecursion P xs
all-at P [] h = tt
all-at P (x ∷ xs) h = (h zero x refl, all-at P xs (λ i y e. h (suc i) y e))

module _ (def : Definition) (sound : IsSound def) (file : List Line) (declares : Declares def file) where
  abbrev IsDeclared : ListKind → Type 0
  IsDeclared l = kind_declared file l.name ≡ Some (list_told def l)

  module _ (l : ListKind) (told : IsDeclared l) (inside : l.sort.0 < length def.signature.sorts) where
    nil-right : (t : Term) → IsSmallNil t → IsNumberedFrom 1 (first_occurrences (t ∷ [])) → IsTermOf def t l.sort.0
        → (above : List Line) → PassesRest file above (lines.Nil l.name (term_written def t))
    nil-right t few read of above =
        let v = row-sorts def (t ∷ []) few read in
        let p = term-passes def sound file declares v.sorts t [] l.sort.0 v.each.0 of.0 in
        let place = list-placed def sound file declares l told inside in
        record {
          known = (list-known def sound file declares l told, p.known);
          counted = p.counted;
          sorted = (v.sorts, subst (λ at. SortsTerm file v.sorts [] at (term_written def t)) (sym place) p.sorted);
          entity = tt;
          ground = tt;
          choice = tt;
        }

    nils-right : (rows : List Term) → AllByRecursion IsSmallNil rows
        → AllByRecursion (OfNil def IsFormed l.sort.0 l.name) rows
        → AllByRecursion (λ t. IsTermOf def t l.sort.0) rows
        → AllByRecursion (λ t. IsRight file (lines.Nil l.name (term_written def t))) rows
    nils-right [] few read of = tt
    nils-right (t ∷ rows) few read of = (nil-right t few.0 read.0.is.naming.first of.0, nils-right rows few.1 read.1 of.1)

    module _ (element : ℕ) (elements : HasKindSort def (kinds.Phylum l.element) element) where
      -- the sort of the list's elements
      elements-placed : option_and_then (value_place file) (element_place file l.name) ≡ place_of def element
      elements-placed =
          ap (option_and_then (value_place file)) (element-placed def sound file declares l told element elements)
          ∙ value-placed def sound file declares (kinds.Phylum l.element) element elements

      pair-right : (head a b : Term) → IsSmallRow (record { head = head; columns = a ∷ b ∷ [] })
          → IsNumberedFrom 1 (first_occurrences (head ∷ a ∷ b ∷ []))
          → IsRow def l.sort.0 (element ∷ l.sort.0 ∷ []) (record { head = head; columns = a ∷ b ∷ [] })
          → (above : List Line)
          → PassesRest file above (lines.Cell l.name (term_written def head) (term_written def a) (term_written def b))
      pair-right head a b few read is above =
          let v = row-sorts def (head ∷ a ∷ b ∷ []) few read in
          let p = term-passes def sound file declares v.sorts head [] l.sort.0 v.each.0 is.of_head.0 in
          let q = term-passes def sound file declares v.sorts a [] element v.each.1.0 is.of_columns.0 in
          let r = term-passes def sound file declares v.sorts b [] l.sort.0 v.each.1.1.0 is.of_columns.1.0 in
          let place = sym (list-placed def sound file declares l told inside) in
          record {
            known = (list-known def sound file declares l told, p.known, q.known, r.known);
            counted = (p.counted, q.counted, r.counted);
            sorted = (
              v.sorts,
              (
                subst (λ at. SortsTerm file v.sorts [] at (term_written def head)) place p.sorted,
                subst (λ at. SortsTerm file v.sorts [] at (term_written def a)) (sym elements-placed) q.sorted,
                subst (λ at. SortsTerm file v.sorts [] at (term_written def b)) place r.sorted,
              ),
            );
            entity = tt;
            ground = tt;
            choice = tt;
          }

      cell-right : (head : Term) (columns : List Term) → IsSmallRow (record { head = head; columns = columns })
          → IsNumberedFrom 1 (first_occurrences (head ∷ columns))
          → IsRow def l.sort.0 (element ∷ l.sort.0 ∷ []) (record { head = head; columns = columns })
          → (above : List Line)
          → PassesRest file above (cell_line def l.name (record { head = head; columns = columns }))
      cell-right head [] few read is above = absurd is.of_columns
      cell-right head (a ∷ []) few read is above = absurd is.of_columns.1
      cell-right head (a ∷ b ∷ c ∷ more) few read is above = absurd is.of_columns.1.1
      cell-right head (a ∷ b ∷ []) few read is above = pair-right head a b few read is above

      cells-right : (elements : ℕ) (rows : List Row) → AllByRecursion IsSmallRow rows
          → AllByRecursion (OfCell def IsFormed l.sort.0 elements l.name) rows
          → AllByRecursion (IsRow def l.sort.0 (element ∷ l.sort.0 ∷ [])) rows
          → AllByRecursion (λ row. IsRight file (cell_line def l.name row)) rows
      cells-right elements [] few read is = tt
      cells-right elements (row ∷ rows) few read is = (
        cell-right row.head row.columns few.0 read.0.is.naming.first is.0,
        cells-right elements rows few.1 read.1 is.1,
      )

  pub lists-nils-right : (all : List ListKind) → AllByRecursion IsDeclared all → AllByRecursion HasSmallListRows all
      → AllByRecursion (OfList def IsFormed) all → AllByRecursion (IsListKind def) all
      → AllByRecursion (λ l. IsRightBlock file (nil_lines def l)) all
  lists-nils-right [] told few read is = tt
  lists-nils-right (l ∷ all) told few read is =
      let rows = nils-right l told.0 is.0.sort l.nil_rows few.0.0 read.0.nils is.0.nils in (
        right-map file (λ t. lines.Nil l.name (term_written def t)) l.nil_rows rows,
        lists-nils-right all told.1 few.1 read.1 is.1,
      )

  pub lists-cells-right : (all : List ListKind) → AllByRecursion IsDeclared all → AllByRecursion HasSmallListRows all
      → AllByRecursion (OfList def IsFormed) all → AllByRecursion (IsListKind def) all
      → AllByRecursion (λ l. IsRightBlock file (cell_lines def l)) all
  lists-cells-right [] told few read is = tt
  lists-cells-right (l ∷ all) told few read is =
      let rows = cells-right l told.0 is.0.sort is.0.element is.0.element_sort read.0.is.element_sort l.cell_rows
      few.0.1 read.0.cells is.0.cells in (
        right-map file (cell_line def l.name) l.cell_rows rows,
        lists-cells-right all told.1 few.1 read.1 is.1,
      )
