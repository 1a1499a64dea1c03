-- The hole rows, each with its cases, and the declare rows in the lines that write a definition.
use Rattle.std.proofs.Common.{◌≢◌, ℕ, ◌≤◌, None, List, [], ◌∷◌, ◌++◌, map, refl, arith}
use Rattle.std.specs.List.{AllByRecursion, flat_map}
use Rattle.psg_terms.specs.Names.{Name}
use Rattle.psg_terms.specs.Sound.{IsSound as IsSoundSignature}
use Rattle.psg_grammar.specs.declared.types.Kind.{Kind}
use Rattle.psg_grammar.specs.declared.types.Kind.TheVariants as kinds
use Rattle.psg_grammar.specs.declared.types.Case.{Case}
use Rattle.psg_grammar.specs.declared.types.HoleRow.{HoleRow}
use Rattle.psg_grammar.specs.declared.types.DeclareRow.{DeclareRow}
use Rattle.psg_grammar.specs.declared.types.Definition.{Definition}
use Rattle.psg_grammar.specs.Specimens.{holes_of}
use Rattle.psg_deflines.specs.WrittenTerms.{WrittenTerm}
use Rattle.psg_deflines.specs.WrittenTrees.{WrittenTree, HasTreeForm}
use Rattle.psg_deflines.specs.declared.lines.Line.{Line}
use Rattle.psg_deflines.specs.declared.lines.Line.TheVariants as lines
use Rattle.psg_defnumber.specs.Numbers.{AreCases, IsHoleRow, AreHoleRows, IsDeclareRow, AreDeclareRows}
use Rattle.psg_defread.specs.Layout.{rank}
use Rattle.psg_defread.specs.WrittenLines.{lines_of, kind_name, space_name, term_written, tree_written, case_line, hole_lines, declare_line}
use Rattle.psg_defread.proofs.NumberNames.{number_names, numbers-once}
use Rattle.psg_defread.proofs.NumberTerms.{term-again, HasFewVariables, small-row}
use Rattle.psg_defread.proofs.NumberRows.{tree-again, IsSmallCase, IsSmallNil, place_terms, places-small, nil-again, case-again}
use Rattle.psg_defread.proofs.Origins.{IsFormed, given-case, OfCase, OfHoleRow, OfDeclareRow}
use Rattle.psg_defread.proofs.NumberOperators.{kind-renamed}
use Rattle.psg_defread.proofs.Blocks.{from_declares, flat-front, last-blocks, first-blocks}
use Rattle.psg_defread.proofs.NumberSpaces.{space-again}

abbrev pub HasSmallCases : HoleRow → Type 0
HasSmallCases row = IsSmallNil row.term × AllByRecursion IsSmallCase row.cases

abbrev pub IsSmallDeclareRow : DeclareRow → Type 0
IsSmallDeclareRow row = HasFewVariables (row.term ∷ row.value ∷ place_terms row.specimen)

module _ (def : Definition) where
  -- ---- in the lines

  cases-in : IsSoundSignature def.signature → (kind : Kind) (sort : ℕ) (cases : List Case) (more : List Line)
      → AllByRecursion (OfCase def IsFormed kind sort) cases → AllByRecursion IsSmallCase cases
      → AreCases def kind sort more [] → AreCases def kind sort (map (case_line def) cases ++ more) cases
  cases-in sound kind sort [] more of few none = none
  cases-in sound kind sort (one ∷ rest) more of few none =
      let form = (given-case def of.0.term of.0.tree of.0.given).1 in
      let first = case-again def sound kind sort of.0.term of.0.tree one few.0 form of.0.is in
      (one, rest, refl, first, cases-in sound kind sort rest more of.1 few.1 none)

  past-cases : (cases : List Case) (more : List Line) (all : List HoleRow) → AreHoleRows def more all
      → AreHoleRows def (map (case_line def) cases ++ more) all
  past-cases [] more all h = h
  past-cases (one ∷ rest) more all h = past-cases rest more all h

  abbrev HasNoCases : List Line → Type 0
  HasNoCases tail = (kind : Kind) (sort : ℕ) → AreCases def kind sort tail []

  no-cases : (all : List HoleRow) (tail : List Line) → HasNoCases tail
      → HasNoCases (flat_map (hole_lines def) all ++ tail)
  no-cases [] tail none = none
  no-cases (row ∷ rest) tail none = λ kind sort. refl

  hole-rows-in : IsSoundSignature def.signature → (all : List HoleRow) (tail : List Line)
      → AllByRecursion (OfHoleRow def IsFormed) all → AllByRecursion HasSmallCases all → HasNoCases tail
      → AreHoleRows def tail [] → AreHoleRows def (flat_map (hole_lines def) all ++ tail) all
  hole-rows-in sound [] tail of few none last = last
  hole-rows-in sound (row ∷ rest) tail of few none last =
      let more = flat_map (hole_lines def) rest ++ tail in
      let sort = of.0.sort in
      let end = no-cases rest tail none in
      let first : IsHoleRow def (kind_name def row.kind) (term_written def row.term) None
      (map (case_line def) row.cases ++ more) row = record {
        of_kind = kind-renamed def of.0.kind row.kind of.0.of_kind;
        sort = sort;
        kind_sort = of.0.kind_sort;
        has_cases = (
          nil-again def sound sort of.0.term row.term few.0.0 of.0.is,
          cases-in sound row.kind sort row.cases more of.0.cases few.0.1 (end row.kind sort),
        );
      } in
      flat-front (λ ls. AreHoleRows def ls (row ∷ rest)) (hole_lines def) row rest tail (
        row,
        rest,
        refl,
        first,
        past-cases row.cases more rest (hole-rows-in sound rest tail of.1 few.1 none last),
      )

  holes-step : (all : List HoleRow) (line : Line) (rest : List Line) → rank line ≢ 7 → AreHoleRows def rest all
      → AreHoleRows def (line ∷ rest) all
  holes-step all (lines.Hole kind w specimen) rest h k = absurd (h refl)
  holes-step all line rest h k = k

  cases-step : (kind : Kind) (sort : ℕ) (line : Line) (rest : List Line) → rank line ≢ 7
      → AreCases def kind sort rest [] → AreCases def kind sort (line ∷ rest) []
  cases-step kind sort (lines.Hole of_kind w specimen) rest h e = absurd (h refl)
  cases-step kind sort (lines.Case w specimen) rest h e = absurd (h refl)
  cases-step kind sort line rest h e = e

  abbrev IsNoHole : ℕ → Type 0
  IsNoHole r = r ≢ 7

  free : (r : ℕ) → 8 ≤ r → r ≢ 7
  free r h e = omega (arith, h, e)

  pub hole-rows-are : IsSoundSignature def.signature → AllByRecursion (OfHoleRow def IsFormed) def.hole_rows
      → AllByRecursion HasSmallCases def.hole_rows → AreHoleRows def (lines_of def) def.hole_rows
  hole-rows-are sound of few =
      first-blocks 7 IsNoHole (λ ls. AreHoleRows def ls def.hole_rows) (holes-step def.hole_rows) def
      (λ r k e. omega (arith, k, e))
      (hole-rows-in sound def.hole_rows (from_declares def) of few
      (λ kind sort. last-blocks 8 IsNoHole (λ ls. AreCases def kind sort ls []) (cases-step kind sort) def free refl)
      (last-blocks 8 IsNoHole (λ ls. AreHoleRows def ls []) (holes-step []) def free refl))

  -- ---- declare rows

  abbrev IsDeclareRowAgain : DeclareRow → Type 0
  IsDeclareRowAgain row =
      IsDeclareRow def (space_name def row.space) (kind_name def (kinds.List row.list)) (term_written def row.term) (term_written def row.value)
      (tree_written def row.specimen) row

  declare-again : IsSoundSignature def.signature → (named list : Name) (entity value : WrittenTerm) (tree : WrittenTree)
      (row : DeclareRow) → IsSmallDeclareRow row → HasTreeForm tree → IsDeclareRow def named list entity value tree row
      → IsDeclareRowAgain row
  declare-again sound named list entity value tree row few form h =
      let small = small-row (row.term ∷ row.value ∷ place_terms row.specimen) few h.naming.first in
      let places = places-small (holes_of row.specimen) small.1.1 in
      record {
        of_space = space-again def named row.space h.of_space;
        of_list = kind-renamed def list (kinds.List row.list) h.of_list;
        found = h.found;
        list_is = h.list_is;
        names = number_names;
        entity_sort = h.entity_sort;
        space_sort = h.space_sort;
        of_entity = term-again def sound h.names entity [] h.entity_sort row.term small.0 h.of_entity;
        value_sort = h.value_sort;
        elements_sort = h.elements_sort;
        of_value = term-again def sound h.names value [] h.value_sort row.value small.1.0 h.of_value;
        of_specimen =
            tree-again def sound h.names row.specimen (kinds.Phylum h.found.element) tree places form h.of_specimen;
        naming = record { once = numbers-once; first = h.naming.first };
      }

  declare-rows-in : IsSoundSignature def.signature → (all : List DeclareRow)
      → AllByRecursion (OfDeclareRow def IsFormed) all → AllByRecursion IsSmallDeclareRow all
      → AreDeclareRows def (map (declare_line def) all) all
  declare-rows-in sound [] of few = refl
  declare-rows-in sound (row ∷ rest) of few =
      let first = declare-again sound of.0.named of.0.list of.0.entity of.0.value of.0.tree row few.0 of.0.given.4 of.0.is in
      (row, rest, refl, first, declare-rows-in sound rest of.1 few.1)

  declares-step : (all : List DeclareRow) (line : Line) (rest : List Line) → rank line ≢ 8
      → AreDeclareRows def rest all → AreDeclareRows def (line ∷ rest) all
  declares-step all (lines.Declare named list entity value tree) rest h w = absurd (h refl)
  declares-step all line rest h w = w

  pub declare-rows-are : IsSoundSignature def.signature → AllByRecursion (OfDeclareRow def IsFormed) def.declare_rows
      → AllByRecursion IsSmallDeclareRow def.declare_rows → AreDeclareRows def (lines_of def) def.declare_rows
  declare-rows-are sound of few =
      first-blocks 8 (λ r. r ≢ 8) (λ ls. AreDeclareRows def ls def.declare_rows) (declares-step def.declare_rows) def
      (λ r k e. omega (arith, k, e)) (declare-rows-in sound def.declare_rows of few)
