-- Each thing of a definition that was read comes from a line of its file.
use Rattle.std.proofs.Common.{◌≡◌, ◌⊎◌, inl, inr, ℕ, Bool, Option, Some, None, List, [], ◌∷◌, sym, subst}
use Rattle.std.specs.List.{AllByRecursion}
use Rattle.psg_terms.specs.Names.{Name}
use Rattle.psg_terms.specs.Terms.{Term}
use Rattle.psg_grammar.specs.declared.types.Kind.{Kind}
use Rattle.psg_grammar.specs.declared.types.Level.{Level}
use Rattle.psg_grammar.specs.declared.types.Row.{Row}
use Rattle.psg_grammar.specs.declared.types.ListKind.{ListKind}
use Rattle.psg_grammar.specs.declared.types.Operator.{Operator}
use Rattle.psg_grammar.specs.declared.types.Case.{Case}
use Rattle.psg_grammar.specs.declared.types.HoleRow.{HoleRow}
use Rattle.psg_grammar.specs.declared.types.DeclareRow.{DeclareRow}
use Rattle.psg_grammar.specs.declared.types.Definition.{Definition}
use Rattle.psg_grammar.specs.Sound.{HasKindSort}
use Rattle.psg_deflines.specs.Entries.{written}
use Rattle.psg_deflines.specs.Forms.{HasForm}
use Rattle.psg_deflines.specs.WrittenTerms.{WrittenTerm, HasTermForm}
use Rattle.psg_deflines.specs.WrittenTrees.{WrittenTree, HasTreeForm}
use Rattle.psg_deflines.specs.declared.lines.LineItem.{LineItem}
use Rattle.psg_deflines.specs.declared.lines.Line.{Line}
use Rattle.psg_deflines.specs.declared.lines.Line.TheVariants as lines
use Rattle.psg_defnumber.specs.Numbers.{IsKind, IsRow, IsNil, IsCase, IsOperator, IsList, IsDeclareRow, AreRows, AreNils, AreCells, AreCases, HasCases, AreOperators, AreLists, AreHoleRows, AreDeclareRows, IsNumbered, terms_of}
use Rattle.psg_defnumber.proofs.LineSizes.{entries-formed}
use Rattle.psg_defread.proofs.WasRead.{WasRead}
use Rattle.psg_defread.proofs.NumberTerms.{first-numbered}

-- what is given of each line of the file is given of the line that a thing comes from
module _ (def : Definition) (Given : Line → Type 0) where
  pub record OfRow (head : ℕ) (sorts : List ℕ) (row : Row) : Type 0 where
    pub term : WrittenTerm
    pub columns : List WrittenTerm
    pub given : Given (lines.Row term columns)
    pub is : IsRow def head sorts term columns row

  pub record OfOperator (op : Operator) : Type 0 where
    pub name : Name
    pub phylum : Name
    pub scope : Bool
    pub level : Level
    pub parts : List LineItem
    pub behind : List Line
    pub given : Given (lines.Operator name phylum scope level parts)
    pub is : IsOperator def name phylum scope level parts behind op
    pub rows : AllByRecursion (OfRow is.sort is.columns) op.rows

  pub record OfNil (sort : ℕ) (list : Name) (t : Term) : Type 0 where
    pub term : WrittenTerm
    pub given : Given (lines.Nil list term)
    pub is : IsNil def sort term t

  pub record OfCell (sort elements : ℕ) (list : Name) (row : Row) : Type 0 where
    pub term : WrittenTerm
    pub first : WrittenTerm
    pub more : WrittenTerm
    pub given : Given (lines.Cell list term first more)
    pub is : IsRow def sort (elements ∷ sort ∷ []) term (first ∷ more ∷ []) row

  pub record OfList (l : ListKind) : Type 0 where
    pub file : List Line
    pub name : Name
    pub sort : Name
    pub elements : Name
    pub separator : Name
    pub on_lines : Bool
    pub unfinished : Bool
    pub given : Given (lines.List name sort elements separator on_lines unfinished)
    pub is : IsList def file name sort elements separator on_lines unfinished l
    pub nils : AllByRecursion (OfNil l.sort.0 l.name) l.nil_rows
    pub cells : AllByRecursion (OfCell l.sort.0 is.element_sort l.name) l.cell_rows

  -- a case has a line of its own, or stands in the line of its hole row
  abbrev pub IsGivenCase : WrittenTerm → WrittenTree → Type 0
  IsGivenCase term tree = Given (lines.Case term tree) ⊎ ((kind : Name) × Given (lines.Hole kind term (Some tree)))

  pub record OfCase (kind : Kind) (sort : ℕ) (one : Case) : Type 0 where
    pub term : WrittenTerm
    pub tree : WrittenTree
    pub given : IsGivenCase term tree
    pub is : IsCase def kind sort term tree one

  pub record OfHoleRow (row : HoleRow) : Type 0 where
    pub kind : Name
    pub term : WrittenTerm
    pub specimen : Option WrittenTree
    pub given : Given (lines.Hole kind term specimen)
    pub of_kind : IsKind def kind row.kind
    pub sort : ℕ
    pub kind_sort : HasKindSort def row.kind sort
    pub is : IsNil def sort term row.term
    pub cases : AllByRecursion (OfCase row.kind sort) row.cases

  pub record OfDeclareRow (row : DeclareRow) : Type 0 where
    pub named : Name
    pub list : Name
    pub entity : WrittenTerm
    pub value : WrittenTerm
    pub tree : WrittenTree
    pub given : Given (lines.Declare named list entity value tree)
    pub is : IsDeclareRow def named list entity value tree row

  pub record Origins : Type 0 where
    pub operators : AllByRecursion OfOperator def.operators
    pub lists : AllByRecursion OfList def.lists
    pub hole_rows : AllByRecursion OfHoleRow def.hole_rows
    pub declare_rows : AllByRecursion OfDeclareRow def.declare_rows

  -- ---- operators

  rows-from : (head : ℕ) (sorts : List ℕ) (behind : List Line) (rows : List Row) → AllByRecursion Given behind
      → AreRows def head sorts behind rows → AllByRecursion (OfRow head sorts) rows
  rows-from head sorts [] rows g e = subst (AllByRecursion (OfRow head sorts)) (sym e) tt
  rows-from head sorts (lines.Operator name phylum scope level parts ∷ behind) rows g e =
      subst (AllByRecursion (OfRow head sorts)) (sym e) tt
  rows-from head sorts (lines.Row w ws ∷ behind) rows g (row, rest, e, h, hs) =
      subst (AllByRecursion (OfRow head sorts)) (sym e) (
        record { term = w; columns = ws; given = g.0; is = h },
        rows-from head sorts behind rest g.1 hs,
      )
  rows-from head sorts (line ∷ behind) rows g h = rows-from head sorts behind rows g.1 h

  operators-from : (file : List Line) (all : List Operator) → AllByRecursion Given file → AreOperators def file all
      → AllByRecursion OfOperator all
  operators-from [] all g e = subst (AllByRecursion OfOperator) (sym e) tt
  operators-from (lines.Operator n p s l parts ∷ behind) all g (op, rest, e, h, hs) =
      subst (AllByRecursion OfOperator) (sym e) (
        record {
          name = n;
          phylum = p;
          scope = s;
          level = l;
          parts = parts;
          behind = behind;
          given = g.0;
          is = h;
          rows = rows-from h.sort h.columns behind op.rows g.1 h.each_row;
        },
        operators-from behind rest g.1 hs,
      )
  operators-from (line ∷ behind) all g h = operators-from behind all g.1 h

  -- ---- lists

  nils-from : (list : Name) (sort : ℕ) (file : List Line) (rows : List Term) → AllByRecursion Given file
      → AreNils def list sort file rows → AllByRecursion (OfNil sort list) rows
  nils-from list sort [] rows g e = subst (AllByRecursion (OfNil sort list)) (sym e) tt
  nils-from list sort (lines.Nil of_list w ∷ behind) rows g (inl (same, t, rest, e, h, hs)) =
      subst (AllByRecursion (OfNil sort list)) (sym e) (
        record { term = w; given = subst (λ n. Given (lines.Nil n w)) same g.0; is = h },
        nils-from list sort behind rest g.1 hs,
      )
  nils-from list sort (lines.Nil of_list w ∷ behind) rows g (inr (other, hs)) =
      nils-from list sort behind rows g.1 hs
  nils-from list sort (line ∷ behind) rows g h = nils-from list sort behind rows g.1 h

  cells-from : (list : Name) (sort elements : ℕ) (file : List Line) (rows : List Row) → AllByRecursion Given file
      → AreCells def list sort elements file rows → AllByRecursion (OfCell sort elements list) rows
  cells-from list sort elements [] rows g e = subst (AllByRecursion (OfCell sort elements list)) (sym e) tt
  cells-from list sort elements (lines.Cell of_list w v u ∷ behind) rows g (inl (same, row, rest, e, h, hs)) =
      subst (AllByRecursion (OfCell sort elements list)) (sym e) (
        record { term = w; first = v; more = u; given = subst (λ n. Given (lines.Cell n w v u)) same g.0; is = h },
        cells-from list sort elements behind rest g.1 hs,
      )
  cells-from list sort elements (lines.Cell of_list w v u ∷ behind) rows g (inr (other, hs)) =
      cells-from list sort elements behind rows g.1 hs
  cells-from list sort elements (line ∷ behind) rows g h = cells-from list sort elements behind rows g.1 h

  lists-from : (whole file : List Line) (all : List ListKind) → AllByRecursion Given whole
      → AllByRecursion Given file → AreLists def whole file all → AllByRecursion OfList all
  lists-from whole [] all w g e = subst (AllByRecursion OfList) (sym e) tt
  lists-from whole (lines.List n s es sep on un ∷ behind) all w g (l, rest, e, h, hs) =
      subst (AllByRecursion OfList) (sym e) (
        record {
          file = whole;
          name = n;
          sort = s;
          elements = es;
          separator = sep;
          on_lines = on;
          unfinished = un;
          given = g.0;
          is = h;
          nils = subst (λ m. AllByRecursion (OfNil l.sort.0 m) l.nil_rows) (sym h.named)
              (nils-from n l.sort.0 whole l.nil_rows w h.nils);
          cells = subst (λ m. AllByRecursion (OfCell l.sort.0 h.element_sort m) l.cell_rows) (sym h.named)
              (cells-from n l.sort.0 h.element_sort whole l.cell_rows w h.cells);
        },
        lists-from whole behind rest w g.1 hs,
      )
  lists-from whole (line ∷ behind) all w g h = lists-from whole behind all w g.1 h

  -- ---- hole rows

  cases-from : (kind : Kind) (sort : ℕ) (behind : List Line) (cases : List Case) → AllByRecursion Given behind
      → AreCases def kind sort behind cases → AllByRecursion (OfCase kind sort) cases
  cases-from kind sort [] cases g e = subst (AllByRecursion (OfCase kind sort)) (sym e) tt
  cases-from kind sort (lines.Hole of_kind w specimen ∷ behind) cases g e =
      subst (AllByRecursion (OfCase kind sort)) (sym e) tt
  cases-from kind sort (lines.Case w tree ∷ behind) cases g (one, rest, e, h, hs) =
      subst (AllByRecursion (OfCase kind sort)) (sym e) (
        record { term = w; tree = tree; given = inl g.0; is = h },
        cases-from kind sort behind rest g.1 hs,
      )
  cases-from kind sort (line ∷ behind) cases g h = cases-from kind sort behind cases g.1 h

  -- the row's own term is a row alone; its cases follow, or are one with it
  term-from : (sort : ℕ) (w : WrittenTerm) (tree : WrittenTree) (one : Case) (t : Term) (k : Kind)
      → one.term ≡ t → IsCase def k sort w tree one → IsNil def sort w t
  term-from sort w tree one t k same h = subst (IsNil def sort w) same (record {
    names = h.names;
    of_term = h.of_term;
    naming = record {
      once = h.naming.once;
      first = first-numbered one.term (terms_of def one.specimen) h.naming.first;
    };
  })

  hole-row-from : (kind : Name) (w : WrittenTerm) (specimen : Option WrittenTree) (behind : List Line)
      (row : HoleRow) (sort : ℕ) → IsKind def kind row.kind → HasKindSort def row.kind sort
      → Given (lines.Hole kind w specimen) → AllByRecursion Given behind
      → HasCases def row.kind sort w specimen behind row.term row.cases → OfHoleRow row
  hole-row-from kind w (Some tree) behind row sort of at g more (one, e, same, h) =
      let found : OfCase row.kind sort one = record { term = w; tree = tree; given = inr (kind, g); is = h } in
      record {
        kind = kind;
        term = w;
        specimen = Some tree;
        given = g;
        of_kind = of;
        sort = sort;
        kind_sort = at;
        is = term-from sort w tree one row.term row.kind same h;
        cases = subst (AllByRecursion (OfCase row.kind sort)) (sym e) (found, tt);
      }
  hole-row-from kind w None behind row sort of at g more (h, hs) = record {
    kind = kind;
    term = w;
    specimen = None;
    given = g;
    of_kind = of;
    sort = sort;
    kind_sort = at;
    is = h;
    cases = cases-from row.kind sort behind row.cases more hs;
  }

  hole-rows-from : (file : List Line) (all : List HoleRow) → AllByRecursion Given file → AreHoleRows def file all
      → AllByRecursion OfHoleRow all
  hole-rows-from [] all g e = subst (AllByRecursion OfHoleRow) (sym e) tt
  hole-rows-from (lines.Hole kind w specimen ∷ behind) all g (row, rest, e, h, hs) =
      subst (AllByRecursion OfHoleRow) (sym e) (
        hole-row-from kind w specimen behind row h.sort h.of_kind h.kind_sort g.0 g.1 h.has_cases,
        hole-rows-from behind rest g.1 hs,
      )
  hole-rows-from (line ∷ behind) all g h = hole-rows-from behind all g.1 h

  -- ---- declare rows

  declare-rows-from : (file : List Line) (all : List DeclareRow) → AllByRecursion Given file
      → AreDeclareRows def file all → AllByRecursion OfDeclareRow all
  declare-rows-from [] all g e = subst (AllByRecursion OfDeclareRow) (sym e) tt
  declare-rows-from (lines.Declare named list entity value tree ∷ behind) all g (row, rest, e, h, hs) =
      subst (AllByRecursion OfDeclareRow) (sym e) (
        record { named = named; list = list; entity = entity; value = value; tree = tree; given = g.0; is = h },
        declare-rows-from behind rest g.1 hs,
      )
  declare-rows-from (line ∷ behind) all g h = declare-rows-from behind all g.1 h

  pub origins : {version : ℕ} (file : List Line) → AllByRecursion Given file → IsNumbered version file def → Origins
  origins file g h = record {
    operators = operators-from file def.operators g h.operators;
    lists = lists-from file file def.lists g g h.lists;
    hole_rows = hole-rows-from file def.hole_rows g h.hole_rows;
    declare_rows = declare-rows-from file def.declare_rows g h.declare_rows;
  }

-- each line has its form
abbrev pub IsFormed : Line → Type 0
IsFormed line = HasForm line

pub given-case : (def : Definition) (w : WrittenTerm) (tree : WrittenTree) → IsGivenCase def HasForm w tree
    → HasTermForm w × HasTreeForm tree
given-case def w tree (inl h) = (h.0, h.1)
given-case def w tree (inr (kind, h)) = (h.1, h.2)

pub file-forms : (def : Definition) (h : WasRead def) → AllByRecursion IsFormed (written h.entries)
file-forms def h = entries-formed [] h.texts h.entries h.each

pub read-from : (def : Definition) → WasRead def → Origins def IsFormed
read-from def h = origins def IsFormed (written h.entries) (file-forms def h) h.numbered
