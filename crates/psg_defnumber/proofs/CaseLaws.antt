-- The hole rows and the declare rows of a file's lines.
use Rattle.std.proofs.Common.{ℕ, ◌≤◌, ◌<◌, ◌^◌, ◌++◌, Option, Some, None, List, [], ◌∷◌, length, codes, ap, sym, subst, arith}
use Rattle.std.specs.List.{AllByRecursion}
use Rattle.psg_terms.specs.Names.{Name}
use Rattle.psg_terms.specs.Sound.{IsSound as IsSoundSignature}
use Rattle.psg_grammar.specs.declared.types.Kind.{Kind}
use Rattle.psg_grammar.specs.declared.types.Kind.TheVariants as kinds
use Rattle.psg_grammar.specs.declared.types.Case.{Case}
use Rattle.psg_grammar.specs.declared.types.HoleRow.{HoleRow}
use Rattle.psg_grammar.specs.declared.types.DeclareRow.{DeclareRow}
use Rattle.psg_grammar.specs.declared.types.Definition.{Definition}
use Rattle.psg_grammar.specs.Sound.{IsTermOf, IsShort, IsCase, IsHoleRow, IsDeclareRow}
use Rattle.psg_deflines.specs.WrittenTerms.{WrittenTerm, term_parts}
use Rattle.psg_deflines.specs.WrittenTrees.{WrittenTree, HasTreeForm}
use Rattle.psg_deflines.specs.Forms.{HasForm, HasFormBehindBy, by_parts}
use Rattle.psg_deflines.specs.declared.lines.Line.{Line}
use Rattle.psg_deflines.specs.declared.lines.Line.TheVariants as lines
use Rattle.psg_defnumber.specs.Numbers as numbers
use Rattle.psg_defnumber.specs.Numbers.{AreCases, HasCases, AreHoleRows, AreDeclareRows}
use Rattle.psg_defnumber.specs.Soundness.{total}
use Rattle.psg_defnumber.proofs.TermSorts.{term-takes}
use Rattle.psg_defnumber.proofs.TreeWeights.{weight, tree-long, total-append}
use Rattle.psg_defnumber.proofs.SpecimenLaws.{IsInside, AreInside, HaveColumns, IsThere, kind-inside, space-inside, kind-there, specimen-is}
use Rattle.psg_defnumber.proofs.LineSizes.{lines_total, few-lines}
use Rattle.psg_defnumber.proofs.SoundRows.{nil-is}

-- a specimen behind a term has no more elements than its line has bytes
by-long : (w : WrittenTree) → HasTreeForm w → weight w ≤ total (by_parts (Some w))
by-long w form = omega (arith, tree-long w form)

module _ (def : Definition) (sound : IsSoundSignature def.signature) (inside : AreInside def)
    (columns : HaveColumns def) where
  case-is : (kind : Kind) (sort : ℕ) (w : WrittenTerm) (tree : WrittenTree) (one : Case) → IsThere def kind
      → IsInside def sort → HasTreeForm tree → weight tree < 2 ^ 32 → numbers.IsCase def kind sort w tree one
      → IsCase def kind sort one
  case-is kind sort w tree one there within form limit h = record {
    term = term-takes def.signature sound h.names w [] sort one.term within h.of_term;
    specimen = specimen-is def sound inside columns h.names one.specimen kind tree there form limit h.of_specimen;
  }

  cases-are : (kind : Kind) (sort : ℕ) (behind : List Line) (cases : List Case) → IsThere def kind → IsInside def sort
      → AllByRecursion HasForm behind → lines_total behind < 2 ^ 32 → AreCases def kind sort behind cases
      → AllByRecursion (IsCase def kind sort) cases
  cases-are kind sort [] cases there within form limit e = subst (AllByRecursion (IsCase def kind sort)) (sym e) tt
  cases-are kind sort (lines.Hole of_kind w specimen ∷ behind) cases there within form limit e =
      subst (AllByRecursion (IsCase def kind sort)) (sym e) tt
  cases-are kind sort (lines.Case w specimen ∷ behind) cases there within form limit (one, rest, e, h, hs) =
      let size = total-append (term_parts w) (by_parts (Some specimen)) in
      subst (AllByRecursion (IsCase def kind sort)) (sym e) (
        case-is kind sort w specimen one there within form.0.1 (omega (arith, size, by-long specimen form.0.1)) h,
        cases-are kind sort behind rest there within form.1 (omega arith) hs,
      )
  cases-are kind sort (line ∷ behind) cases there within form limit h =
      cases-are kind sort behind cases there within form.1 (omega arith) h

  few-cases : (kind : Kind) (sort : ℕ) (behind : List Line) (cases : List Case) → AreCases def kind sort behind cases
      → length cases ≤ length behind
  few-cases kind sort [] cases e = omega (arith, ap length e)
  few-cases kind sort (lines.Hole of_kind w specimen ∷ behind) cases e = omega (arith, ap length e)
  few-cases kind sort (lines.Case w specimen ∷ behind) cases (one, rest, e, h, hs) =
      omega (arith, ap length e, few-cases kind sort behind rest hs)
  few-cases kind sort (line ∷ behind) cases h = omega (arith, few-cases kind sort behind cases h)

  -- what a hole row's line, and the cases behind it, make
  record AreCasesOf (row : HoleRow) (sort : ℕ) : Type 0 where
    term : IsTermOf def row.term sort
    few : IsShort row.cases
    each : AllByRecursion (IsCase def row.kind sort) row.cases

  has-cases : (row : HoleRow) (sort : ℕ) (w : WrittenTerm) (specimen : Option WrittenTree) (behind : List Line)
      → IsThere def row.kind → IsInside def sort → HasFormBehindBy specimen → total (by_parts specimen) < 2 ^ 32
      → AllByRecursion HasForm behind → lines_total behind < 2 ^ 32
      → HasCases def row.kind sort w specimen behind row.term row.cases → AreCasesOf row sort
  has-cases row sort w (Some tree) behind there within form small forms limit (one, e, same, h) =
      let found = case-is row.kind sort w tree one there within form (omega (arith, by-long tree form)) h in
      record {
        term = subst (λ u. IsTermOf def u sort) same found.term;
        few = omega (arith, ap length e);
        each = subst (AllByRecursion (IsCase def row.kind sort)) (sym e) (found, tt);
      }
  has-cases row sort w None behind there within form small forms limit (h, hs) = record {
    term = nil-is def sound sort w row.term within h;
    few = omega (arith, few-cases row.kind sort behind row.cases hs, few-lines behind);
    each = cases-are row.kind sort behind row.cases there within forms limit hs;
  }

  pub hole-rows-sound : (file : List Line) (all : List HoleRow) → AllByRecursion HasForm file
      → lines_total file < 2 ^ 32 → AreHoleRows def file all → AllByRecursion (IsHoleRow def) all
  hole-rows-sound [] all form limit e = subst (AllByRecursion (IsHoleRow def)) (sym e) tt
  hole-rows-sound (lines.Hole kind w specimen ∷ behind) all form limit (row, rest, e, h, hs) =
      let size = total-append (term_parts w) (by_parts specimen) in
      let there = kind-there def row.kind h.sort h.kind_sort in
      let within = kind-inside def inside row.kind h.sort h.kind_sort in
      let small : total (by_parts specimen) < 2 ^ 32 = omega (arith, size) in
      let found = has-cases row h.sort w specimen behind there within form.0.2 small form.1 (omega arith) h.has_cases in
      subst (AllByRecursion (IsHoleRow def)) (sym e) (
        record {
          sort = h.sort;
          kind_sort = h.kind_sort;
          term = found.term;
          few_cases = found.few;
          each_case = found.each;
        },
        hole-rows-sound behind rest form.1 (omega arith) hs,
      )
  hole-rows-sound (line ∷ behind) all form limit h = hole-rows-sound behind all form.1 (omega arith) h

  pub few-hole-rows : (file : List Line) (all : List HoleRow) → AreHoleRows def file all → length all ≤ length file
  few-hole-rows [] all e = omega (arith, ap length e)
  few-hole-rows (lines.Hole kind w specimen ∷ behind) all (row, rest, e, h, hs) =
      omega (arith, ap length e, few-hole-rows behind rest hs)
  few-hole-rows (line ∷ behind) all h = omega (arith, few-hole-rows behind all h)

  declare-is : (named list : Name) (entity value : WrittenTerm) (tree : WrittenTree) (row : DeclareRow) → HasTreeForm tree
      → weight tree < 2 ^ 32 → numbers.IsDeclareRow def named list entity value tree row → IsDeclareRow def row
  declare-is named list entity value tree row form limit h =
      let element = kinds.Phylum h.found.element in
      let space = h.space_sort in
      let entity-within = space-inside def inside row.space h.entity_sort space in
      let value-within = kind-inside def inside element h.value_sort h.elements_sort in
      let there = kind-there def element h.value_sort h.elements_sort in
      record {
        entity = h.entity_sort;
        space_sort = space;
        term = term-takes def.signature sound h.names entity [] h.entity_sort row.term entity-within h.of_entity;
        list = h.found;
        list_is = h.list_is;
        element = h.value_sort;
        element_sort = h.elements_sort;
        value = term-takes def.signature sound h.names value [] h.value_sort row.value value-within h.of_value;
        specimen =
            specimen-is def sound inside columns h.names row.specimen element tree there form limit h.of_specimen;
      }

  pub declare-rows-sound : (file : List Line) (all : List DeclareRow) → AllByRecursion HasForm file
      → lines_total file < 2 ^ 32 → AreDeclareRows def file all → AllByRecursion (IsDeclareRow def) all
  declare-rows-sound [] all form limit e = subst (AllByRecursion (IsDeclareRow def)) (sym e) tt
  declare-rows-sound (lines.Declare named list entity value tree ∷ behind) all form limit (row, rest, e, h, hs) =
      let front = total-append (term_parts entity) (codes ":" ∷ (term_parts value ++ by_parts (Some tree))) in
      let size = total-append (term_parts value) (by_parts (Some tree)) in
      subst (AllByRecursion (IsDeclareRow def)) (sym e) (
        declare-is named list entity value tree row form.0.4 (omega (arith, front, size, by-long tree form.0.4)) h,
        declare-rows-sound behind rest form.1 (omega arith) hs,
      )
  declare-rows-sound (line ∷ behind) all form limit h = declare-rows-sound behind all form.1 (omega arith) h

  pub few-declare-rows : (file : List Line) (all : List DeclareRow) → AreDeclareRows def file all
      → length all ≤ length file
  few-declare-rows [] all e = omega (arith, ap length e)
  few-declare-rows (lines.Declare named list entity value tree ∷ behind) all (row, rest, e, h, hs) =
      omega (arith, ap length e, few-declare-rows behind rest hs)
  few-declare-rows (line ∷ behind) all h = omega (arith, few-declare-rows behind all h)
