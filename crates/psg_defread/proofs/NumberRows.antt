-- Specimens, rows and cases that are in a file are written again.
use Rattle.std.proofs.Common.{◌≡◌, ℕ, ◌<◌, ◌^◌, List, [], ◌∷◌, Option, Some, None, slice_get, refl, sym, subst, map}
use Rattle.std.specs.Prelude.{decimal}
use Rattle.std.specs.List.{AllByRecursion}
use Rattle.psg_terms.specs.Names.{Name}
use Rattle.psg_terms.specs.Sound.{IsSound as IsSoundSignature}
use Rattle.psg_grammar.specs.declared.types.Kind.{Kind}
use Rattle.psg_grammar.specs.declared.types.Kind.TheVariants as kinds
use Rattle.psg_grammar.specs.declared.types.Item.{Item}
use Rattle.psg_grammar.specs.declared.types.Item.TheVariants as made
use Rattle.psg_grammar.specs.declared.types.Phylum.{Phylum}
use Rattle.psg_grammar.specs.declared.types.ListKind.{ListKind}
use Rattle.psg_grammar.specs.declared.types.Operator.{Operator}
use Rattle.psg_grammar.specs.declared.types.SpecimenHole.{SpecimenHole}
use Rattle.psg_grammar.specs.declared.types.SpecimenPart.{SpecimenPart, Sub, Name as NamePart, Number, Text}
use Rattle.psg_grammar.specs.declared.types.Specimen.{Specimen, Op', List', Hole, Row_of-Specimen, end_of-Specimen, more_of-Specimen, Row_of-SpecimenPart, end_of-SpecimenPart, more_of-SpecimenPart}
use Rattle.psg_grammar.specs.declared.types.Definition.{Definition}
use Rattle.psg_grammar.specs.Lookups.{part_items}
use Rattle.psg_grammar.specs.Specimens.{holes_of, holes_of_part, holes_of_row, holes_of_list}
use Rattle.psg_grammar.specs.Sound.{HasKindSort}
use Rattle.psg_lexis.proofs.Decimals.{decimal-value}
use Rattle.psg_deflines.specs.WrittenTerms.{WrittenTerm}
use Rattle.psg_deflines.specs.WrittenTrees.{WrittenTree, operator, with_tree, with_name, with_number, with_text, element, HasTreeForm}
use Rattle.psg_defnumber.specs.Numbers.{IsKind, IsPlace, IsTree, IsPart, AreParts, IsListFrom, IsNaming, IsRow, IsNil, IsCase, terms_of}
use Rattle.psg_defread.specs.WrittenLines.{term_written, kind_name, operator_name, tree_written, part_written, parts_written, elements_written, end_written}
use Rattle.psg_defread.proofs.NumberAll.{all-front, all-behind}
use Rattle.psg_defread.proofs.NumberNames.{number_names, name-found, numbers-once}
use Rattle.psg_defread.proofs.NumberTerms.{IsSmallTerm, term-again, terms-again, HasFewVariables, small-row}
use Rattle.psg_terms.specs.Terms.{Term}
use Rattle.psg_grammar.specs.declared.types.Row.{Row}
use Rattle.psg_grammar.specs.declared.types.Case.{Case}

-- the numbers of the variables of the place's term are small
abbrev pub HasSmallTerm : SpecimenHole → Type 0
HasSmallTerm h = IsSmallTerm h.term

abbrev AreSmall : List SpecimenHole → Type 0
AreSmall hs = AllByRecursion HasSmallTerm hs

-- a kind has the name that is written for it
pub kind-again : (def : Definition) (kind : Kind) (s : ℕ) → HasKindSort def kind s
    → IsKind def (kind_name def kind) kind
kind-again def (kinds.Phylum p) s (k, at, e) = (k, at, sym (name-found (λ (x : Phylum). x.name) def.phyla p k at))
kind-again def (kinds.List l) s (k, at, e) = (k, at, sym (name-found (λ (x : ListKind). x.name) def.lists l k at))

module _ (def : Definition) (sound : IsSoundSignature def.signature) (names : List Name) where
  place-again : (n : Name) (t : WrittenTerm) (h : SpecimenHole) → IsSmallTerm h.term → IsPlace def names n t h
      → IsPlace def number_names (kind_name def h.kind) (term_written def h.term) h
  place-again n t h small p = record {
    of_kind = kind-again def h.kind p.sort p.kind_sort;
    sort = p.sort;
    kind_sort = p.kind_sort;
    of_term = term-again def sound names t [] p.sort h.term small p.of_term;
  }

  operator-named : (o : ℕ) (op : Operator) → slice_get def.operators o ≡ Some op
      → op.name ≡ operator_name def o
  operator-named o op at = sym (name-found (λ (x : Operator). x.name) def.operators o op at)

  end-again : (l : ℕ) (rest : Option SpecimenHole) (w : WrittenTree) → AreSmall (holes_of_list end_of-Specimen rest)
      → IsListFrom def names l end_of-Specimen rest w
      → IsListFrom def number_names l end_of-Specimen rest (end_written def rest)
  end-again l None w small e = refl
  end-again l (Some h) w small (n, t, of, p, e) =
      (kind_name def h.kind, term_written def h.term, of, place-again n t h small.0 p, refl)

  mutual
    pub tree-again : (s : Specimen) (kind : Kind) (w : WrittenTree) → AreSmall (holes_of s) → HasTreeForm w
        → IsTree def names kind s w → IsTree def number_names kind s (tree_written def s)
    tree-again (Op' o shape parts) kind w small form (n, op, (at, name), of, h) =
        let front = operator (operator_name def o) in
        let all = parts-again (part_items op.items) parts (operator n) front w small form h in
        (operator_name def o, op, (at, operator-named o op at), of, all.0)
    tree-again (List' l shape elements rest) kind w small form (is, h) =
        (is, elements-again l elements rest w small form h)
    tree-again (Hole h) kind w small form (n, t, of, p, e) =
        (kind_name def h.kind, term_written def h.term, of, place-again n t h small.0 p, refl)

    -- the form of what is in front of a part follows from that of the whole
    part-again : (i : Item) (p : SpecimenPart) (front now next : WrittenTree) → AreSmall (holes_of_part p)
        → HasTreeForm next → IsPart def names i p front next
        → IsPart def number_names i p now (part_written def now p) × HasTreeForm front
    part-again (made.Slot k) (Sub s) front now next small form (t, h, e) =
        let own : HasTreeForm (with_tree front t) = subst HasTreeForm e form in
        ((tree_written def s, tree-again s k t small own.2 h, refl), own.1)
    part-again (made.Refers x) (NamePart n) front now next small form e =
        let own : HasTreeForm (with_name front n) = subst HasTreeForm e form in (refl, own.1)
    part-again (made.Declares x) (NamePart n) front now next small form e =
        let own : HasTreeForm (with_name front n) = subst HasTreeForm e form in (refl, own.1)
    part-again made.Number (Number v) front now next small form (digits, value, e) =
        let own : HasTreeForm (with_number front digits) = subst HasTreeForm e form in
        ((decimal v, decimal-value v (subst (λ n. n < 2 ^ 128) value own.3), refl), own.1)
    part-again made.Text (Text t) front now next small form e =
        let own : HasTreeForm (with_text front t) = subst HasTreeForm e form in (refl, own.1)
    part-again _ _ front now next small form h = absurd h

    parts-again : {m : _} (wanted : List Item) (parts : Row_of-SpecimenPart m) (front now w : WrittenTree)
        → AreSmall (holes_of_row parts) → HasTreeForm w → AreParts def names wanted parts front w
        → AreParts def number_names wanted parts now (parts_written def now parts) × HasTreeForm front
    parts-again [] end_of-SpecimenPart front now w small form e = (refl, subst HasTreeForm e form)
    parts-again [] (more_of-SpecimenPart p rest) front now w small form h = absurd h
    parts-again (i ∷ wanted) end_of-SpecimenPart front now w small form h = absurd h
    parts-again (i ∷ wanted) (more_of-SpecimenPart p rest) front now w small form (next, h, hs) =
        let now_next = part_written def now p in
        let behind = parts-again wanted rest next now_next w
        (all-behind HasSmallTerm (holes_of_part p) (holes_of_row rest) small) form hs in
        let first = part-again i p front now next
        (all-front HasSmallTerm (holes_of_part p) (holes_of_row rest) small) behind.1 h in
        ((now_next, first.0, behind.0), first.1)

    elements-again : {m : _} (l : ℕ) (elements : Row_of-Specimen m) (rest : Option SpecimenHole) (w : WrittenTree)
        → AreSmall (holes_of_list elements rest) → HasTreeForm w → IsListFrom def names l elements rest w
        → IsListFrom def number_names l elements rest (elements_written def elements (end_written def rest))
    elements-again l end_of-Specimen rest w small form h = end-again l rest w small h
    elements-again l (more_of-Specimen s elements) rest w small form (list, e, r, at, h, hs, is) =
        let own : HasTreeForm (element e r) = subst HasTreeForm is form in
        let first = tree-again s (kinds.Phylum list.element) e
        (all-front HasSmallTerm (holes_of s) (holes_of_list elements rest) small) own.1 h in
        let behind = elements-again l elements rest r
        (all-behind HasSmallTerm (holes_of s) (holes_of_list elements rest) small) own.2 hs in
        (list, tree_written def s, elements_written def elements (end_written def rest), at, first, behind, refl)

-- ---- rows and cases

abbrev pub IsSmallRow : Row → Type 0
IsSmallRow row = HasFewVariables (row.head ∷ row.columns)

abbrev pub IsSmallNil : Term → Type 0
IsSmallNil t = HasFewVariables (t ∷ [])

abbrev pub place_terms : Specimen → List Term
place_terms s = map (λ (h : SpecimenHole). h.term) (holes_of s)

abbrev pub IsSmallCase : Case → Type 0
IsSmallCase one = HasFewVariables (one.term ∷ place_terms one.specimen)

numbers-name : (names : List Name) (row : List Term) → IsNaming names row → IsNaming number_names row
numbers-name names row h = record { once = numbers-once; first = h.first }

pub places-small : (hs : List SpecimenHole) → AllByRecursion IsSmallTerm (map (λ (h : SpecimenHole). h.term) hs)
    → AllByRecursion HasSmallTerm hs
places-small [] small = tt
places-small (h ∷ hs) small = (small.0, places-small hs small.1)

module _ (def : Definition) (sound : IsSoundSignature def.signature) where
  pub row-again : (head : ℕ) (sorts : List ℕ) (w : WrittenTerm) (ws : List WrittenTerm) (row : Row)
      → IsSmallRow row → IsRow def head sorts w ws row
      → IsRow def head sorts (term_written def row.head) (map (term_written def) row.columns) row
  row-again head sorts w ws row few h =
      let small = small-row (row.head ∷ row.columns) few h.naming.first in
      record {
        names = number_names;
        of_head = term-again def sound h.names w [] head row.head small.0 h.of_head;
        of_columns = terms-again def sound h.names sorts ws row.columns small.1 h.of_columns;
        naming = numbers-name h.names (row.head ∷ row.columns) h.naming;
      }

  pub nil-again : (sort : ℕ) (w : WrittenTerm) (t : Term) → IsSmallNil t → IsNil def sort w t
      → IsNil def sort (term_written def t) t
  nil-again sort w t few h =
      let small = small-row (t ∷ []) few h.naming.first in
      record {
        names = number_names;
        of_term = term-again def sound h.names w [] sort t small.0 h.of_term;
        naming = numbers-name h.names (t ∷ []) h.naming;
      }

  pub case-again : (kind : Kind) (sort : ℕ) (w : WrittenTerm) (tree : WrittenTree) (one : Case) → IsSmallCase one
      → HasTreeForm tree → IsCase def kind sort w tree one
      → IsCase def kind sort (term_written def one.term) (tree_written def one.specimen) one
  case-again kind sort w tree one few form h =
      let small = small-row (one.term ∷ place_terms one.specimen) few h.naming.first in
      let places = places-small (holes_of one.specimen) small.1 in
      record {
        names = number_names;
        of_term = term-again def sound h.names w [] sort one.term small.0 h.of_term;
        of_specimen = tree-again def sound h.names one.specimen kind tree places form h.of_specimen;
        naming = numbers-name h.names (one.term ∷ terms_of def one.specimen) h.naming;
      }
