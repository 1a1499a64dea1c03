-- The lines of hole rows, of their cases and of declare rows pass the tests of their meaning.
use Rattle.std.proofs.Common.{◌≡◌, IsTrue, ℕ, Some, None, List, [], ◌∷◌, ◌++◌, map, ap, sym, ◌∙◌, subst}
use Rattle.std.specs.List.{AllByRecursion}
use Rattle.std.specs.Option.{option_and_then}
use Rattle.psg_terms.specs.Names.{Name}
use Rattle.psg_grammar.specs.declared.types.Kind.{Kind}
use Rattle.psg_grammar.specs.declared.types.Kind.TheVariants as kinds
use Rattle.psg_grammar.specs.declared.types.Case.{Case}
use Rattle.psg_grammar.specs.declared.types.HoleRow.{HoleRow}
use Rattle.psg_grammar.specs.declared.types.DeclareRow.{DeclareRow}
use Rattle.psg_grammar.specs.declared.types.ListKind.{ListKind}
use Rattle.psg_grammar.specs.declared.types.SpecimenHole.{SpecimenHole}
use Rattle.psg_grammar.specs.declared.types.Definition.{Definition}
use Rattle.psg_grammar.specs.Specimens.{holes_of}
use Rattle.psg_grammar.specs.Sound.{IsSound, IsHoleRow, IsCase, HasKindSort}
use Rattle.psg_deflines.specs.declared.lines.Line.{Line}
use Rattle.psg_deflines.specs.declared.lines.Line.TheVariants as lines
use Rattle.psg_defcheck.specs.Scopes.{last_hole, value_place, kind_place, element_place, is_list}
use Rattle.psg_defcheck.specs.Meanings.{SortsTerm, SortsTree}
use Rattle.psg_defcheck.proofs.AboveLaws.{last_hole-append}
use Rattle.psg_defnumber.proofs.TermSorts.{term-takes}
use Rattle.psg_defread.specs.WrittenLines.{kind_name, term_written, tree_written, case_line, hole_lines, declare_line}
use Rattle.psg_defread.proofs.NumberNames.{name-found}
use Rattle.psg_defread.proofs.NumberRows.{IsSmallCase, place_terms}
use Rattle.psg_defread.proofs.NumberCases.{HasSmallCases, IsSmallDeclareRow}
use Rattle.psg_defread.proofs.PassedTests.{PassesRest, AreRight, IsRight, IsRightBlock}
use Rattle.psg_defread.proofs.PassedDeclared.{Declares, kind-within, kind-known, kind-placed, value-placed, list-known, element-placed, entity-placed}
use Rattle.psg_defread.proofs.PassedTerms.{row-sorts, HasNames, term-passes}
use Rattle.psg_defread.proofs.PassedItems.{space-within, space-known}
use Rattle.psg_defread.proofs.PassedTrees.{HasPlaceNames, tree-passes}
use Rattle.psg_defread.proofs.Origins.{IsFormed, OfCase, OfHoleRow, OfDeclareRow}

places-named : (def : Definition) (sorts : Name → Name) (hs : List SpecimenHole)
    → AllByRecursion (HasNames def sorts) (map (λ (h : SpecimenHole). h.term) hs)
    → AllByRecursion (HasPlaceNames def sorts) hs
places-named def sorts [] h = tt
places-named def sorts (x ∷ hs) h = (h.0, places-named def sorts hs h.1)

module _ (def : Definition) (sound : IsSound def) (file : List Line) (declares : Declares def file) where
  -- ---- hole rows

  module _ (kind : Kind) (sort : ℕ) (there : HasKindSort def kind sort) where
    case-right : (given : ℕ) (one : Case) → IsSmallCase one → OfCase def IsFormed kind given one → IsCase def kind sort one
        → (above : List Line) → last_hole None above ≡ Some (kind_name def kind)
        → PassesRest file above (case_line def one)
    case-right given one few read is above last =
        let v = row-sorts def (one.term ∷ place_terms one.specimen) few read.is.naming.first in
        let term = term-passes def sound file declares v.sorts one.term [] sort v.each.0 is.term.0 in
        let named = places-named def v.sorts (holes_of one.specimen) v.each.1 in
        let tree = tree-passes def sound file declares v.sorts read.is.names one.specimen kind sort read.tree there
        named read.is.of_specimen in
        let w = term_written def one.term in
        let s = tree_written def one.specimen in
        let at_term = subst (λ at. SortsTerm file v.sorts [] at w)
        (sym (value-placed def sound file declares kind sort there)) term.sorted in
        let at_tree = subst (λ at. SortsTree file v.sorts [] at s)
        (sym (kind-placed def sound file declares kind sort there)) tree.sorted in
        record {
          known = (term.known, tree.known);
          counted = (term.counted, tree.counted);
          sorted = (
            v.sorts,
            subst (λ hole. SortsTerm file v.sorts [] (option_and_then (value_place file) hole) w
                × SortsTree file v.sorts [] (option_and_then (kind_place file) hole) s) (sym last) (at_term, at_tree),
          );
          entity = tt;
          ground = tt;
          choice = tt;
        }

    cases-right : (given : ℕ) (all : List Case) → AllByRecursion IsSmallCase all
        → AllByRecursion (OfCase def IsFormed kind given) all
        → AllByRecursion (IsCase def kind sort) all → (above : List Line)
        → last_hole None above ≡ Some (kind_name def kind) → AreRight file above (map (case_line def) all)
    cases-right given [] few read is above last = tt
    cases-right given (one ∷ all) few read is above last =
        let next = last_hole-append None above (case_line def one ∷ []) ∙ last in (
          case-right given one few.0 read.0 is.0 above last,
          cases-right given all few.1 read.1 is.1 (above ++ case_line def one ∷ []) next,
        )

  hole-right : (row : HoleRow) → HasSmallCases row → OfHoleRow def IsFormed row → IsHoleRow def row
      → (above : List Line) → AreRight file above (hole_lines def row)
  hole-right row few read is above =
      let v = row-sorts def (row.term ∷ []) few.0 read.is.naming.first in
      let term = term-passes def sound file declares v.sorts row.term [] is.sort v.each.0 is.term.0 in
      let w = term_written def row.term in
      let line = lines.Hole (kind_name def row.kind) w None in
      let at_term = subst (λ at. SortsTerm file v.sorts [] at w)
      (sym (value-placed def sound file declares row.kind is.sort is.kind_sort)) term.sorted in
      let first : PassesRest file above line = record {
        known = (kind-known def sound file declares row.kind is.sort is.kind_sort, term.known, tt);
        counted = (term.counted, tt);
        sorted = (v.sorts, (at_term, tt));
        entity = tt;
        ground = tt;
        choice = tt;
      } in
      let last = last_hole-append None above (line ∷ []) in (
        first,
        cases-right row.kind is.sort is.kind_sort read.sort row.cases few.1 read.cases is.each_case
            (above ++ line ∷ []) last,
      )

  pub holes-right : (all : List HoleRow) → AllByRecursion HasSmallCases all
      → AllByRecursion (OfHoleRow def IsFormed) all → AllByRecursion (IsHoleRow def) all
      → AllByRecursion (λ row. IsRightBlock file (hole_lines def row)) all
  holes-right [] few read is = tt
  holes-right (row ∷ all) few read is = (hole-right row few.0 read.0 is.0, holes-right all few.1 read.1 is.1)

  -- ---- declare rows

  declare-right : (row : DeclareRow) → IsSmallDeclareRow row → OfDeclareRow def IsFormed row
      → (above : List Line) → PassesRest file above (declare_line def row)
  declare-right row few read above =
      let is = read.is in
      let l = is.found in
      let v = row-sorts def (row.term ∷ row.value ∷ place_terms row.specimen) few is.naming.first in
      let sig = def.signature in
      let entity_in = space-within def sound file declares row.space is.entity_sort is.space_sort in
      let value_in = kind-within def sound (kinds.Phylum l.element) is.value_sort is.elements_sort in
      let entity = term-takes sig sound.signature is.names read.entity [] is.entity_sort row.term entity_in
      is.of_entity in
      let value = term-takes sig sound.signature is.names read.value [] is.value_sort row.value value_in
      is.of_value in
      let p = term-passes def sound file declares v.sorts row.term [] is.entity_sort v.each.0 entity.0 in
      let q = term-passes def sound file declares v.sorts row.value [] is.value_sort v.each.1.0 value.0 in
      let named = places-named def v.sorts (holes_of row.specimen) v.each.1.1 in
      let tree = tree-passes def sound file declares v.sorts is.names row.specimen (kinds.Phylum l.element)
      is.value_sort read.tree is.elements_sort named is.of_specimen in
      let list = name-found (λ (x : ListKind). x.name) def.lists row.list l is.list_is in
      let told = declares.list_is row.list l is.list_is in
      let elements = ap (element_place file) list
      ∙ element-placed def sound file declares l told is.value_sort is.elements_sort in
      let values = ap (option_and_then (value_place file)) elements
      ∙ value-placed def sound file declares (kinds.Phylum l.element) is.value_sort is.elements_sort in
      let entities = entity-placed def sound file declares row.space is.entity_sort entity_in is.space_sort in
      record {
        known = (
          space-known def sound file declares row.space is.entity_sort is.space_sort,
          subst (λ n. IsTrue (is_list file n)) (sym list) (list-known def sound file declares l told),
          p.known,
          q.known,
          tree.known,
        );
        counted = (p.counted, q.counted, tree.counted);
        sorted = (
          v.sorts,
          (
            subst (λ at. SortsTerm file v.sorts [] at (term_written def row.term)) (sym entities) p.sorted,
            subst (λ at. SortsTerm file v.sorts [] at (term_written def row.value)) (sym values) q.sorted,
            subst (λ at. SortsTree file v.sorts [] at (tree_written def row.specimen)) (sym elements) tree.sorted,
          ),
        );
        entity = declares.entity_there row.space is.entity_sort is.space_sort;
        ground = tt;
        choice = tt;
      }

  pub declares-right : (all : List DeclareRow) → AllByRecursion IsSmallDeclareRow all
      → AllByRecursion (OfDeclareRow def IsFormed) all → AllByRecursion (λ row. IsRight file (declare_line def row)) all
  declares-right [] few read = tt
  declares-right (row ∷ all) few read = (declare-right row few.0 read.0, declares-right all few.1 read.1)
