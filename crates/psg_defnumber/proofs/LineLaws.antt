-- What a line adds.
use Rattle.std.proofs.Common.{◌≡◌, ℕ, Bool, List, [], ◌∷◌, ◌++◌, Option, Some, None, refl, ap, sym, ◌∙◌, subst}
use Rattle.psg_terms.specs.Names.{Name}
use Rattle.psg_terms.specs.Kept.{numbers_of}
use Rattle.psg_terms.specs.declared.sorts.SortId.{SortId}
use Rattle.psg_grammar.specs.declared.types.Kind.TheVariants as kinds
use Rattle.psg_grammar.specs.declared.types.Level.{Level}
use Rattle.psg_grammar.specs.declared.types.Item.{Item}
use Rattle.psg_grammar.specs.declared.types.Item.TheVariants as made
use Rattle.psg_grammar.specs.declared.types.Space.{Space}
use Rattle.psg_grammar.specs.declared.types.Phylum.{Phylum}
use Rattle.psg_grammar.specs.declared.types.ListKind.{ListKind}
use Rattle.psg_grammar.specs.declared.types.Operator.{Operator}
use Rattle.psg_grammar.specs.declared.types.Row.{Row}
use Rattle.psg_grammar.specs.declared.types.Case.{Case}
use Rattle.psg_grammar.specs.declared.types.HoleRow.{HoleRow}
use Rattle.psg_grammar.specs.declared.types.DeclareRow.{DeclareRow}
use Rattle.psg_grammar.specs.declared.types.Definition.{Definition}
use Rattle.psg_grammar.specs.Lookups.{part_items}
use Rattle.psg_grammar.specs.Sound.{HasKindSort, AreColumns}
use Rattle.psg_deflines.specs.Entries.{Entry, written}
use Rattle.psg_deflines.specs.WrittenTerms.{WrittenTerm}
use Rattle.psg_deflines.specs.WrittenTrees.{WrittenTree}
use Rattle.psg_deflines.specs.declared.lines.Line.{Line}
use Rattle.psg_deflines.specs.declared.lines.Line.TheVariants as lines
use Rattle.psg_deflines.specs.declared.lines.LineItem.{LineItem}
use Rattle.psg_deflines.specs.declared.lines.LineItem.TheVariants as items
use Rattle.psg_defnumber.specs.Growing.{Lasts}
use Rattle.psg_defnumber.specs.Numbers.{IsSort, IsKind, IsList, IsOperator, AreItems, AreRows, IsRow, IsItem, IsSpaceNamed, IsCase, IsNil, IsHoleRow, HasCases, AreCases, IsDeclareRow}
use Rattle.psg_defnumber.specs.Putting.{Read, Puts, ReadsSpaces, ReadsPhyla, ReadsLists, ReadsOperators, ReadsRows, ReadsCases, ReadsHoleRows, ReadsDeclareRows, ReadsItems, IsOperatorEntry, IsHoleEntry}
use Rattle.psg_defnumber.proofs.PutLaws.{puts-one, puts-none}

-- an entry's line
pub puts-line : {Y : Type 0} (def : Definition) (Reads : Read Entry Y) (entry : Entry) (line : Line) (rest : List Entry) (old new : List Y) → entry ≡ Some line → Puts def Reads (Some line) rest old new → Puts def Reads entry rest old new
puts-line def Reads entry line rest old new e p = subst (λ x. Puts def Reads x rest old new) (sym e) p

pub space-put : (def : Definition) (entry : Entry) (line : Line) (name sort : Name) (rest : List Entry) (old new : List Space) (s : Space) → entry ≡ Some line → line ≡ lines.Space name sort → new ≡ old ++ s ∷ [] → s.name ≡ name → Lasts def (λ full. IsSort full sort s.sort)
    → Puts def ReadsSpaces entry rest old new
space-put def entry line name sort rest old new s e d grown named of_sort =
    puts-line def ReadsSpaces entry (lines.Space name sort) rest old new (e ∙ ap Some d)
    (puts-one def ReadsSpaces (Some (lines.Space name sort)) rest old new s grown (λ full k tail r. (s, tail, refl, named, of_sort full k, r)))

pub phylum-put : (def : Definition) (entry : Entry) (line : Line) (name sort : Name) (bracketed : Bool) (rest : List Entry) (old new : List Phylum) (p : Phylum) → entry ≡ Some line → line ≡ lines.Phylum name sort bracketed → new ≡ old ++ p ∷ [] → p.name ≡ name
    → Lasts def (λ full. IsSort full sort p.sort) → p.bracketed ≡ bracketed → Puts def ReadsPhyla entry rest old new
phylum-put def entry line name sort bracketed rest old new p e d grown named of_sort same =
    puts-line def ReadsPhyla entry (lines.Phylum name sort bracketed) rest old new (e ∙ ap Some d)
    (puts-one def ReadsPhyla (Some (lines.Phylum name sort bracketed)) rest old new p grown (λ full k tail r. (p, tail, refl, record { named = named; of_sort = of_sort full k; same_brackets = same }, r)))

pub list-put : (def : Definition) (entry : Entry) (line : Line) (name sort element separator : Name) (on unfinished : Bool) (rest : List Entry) (old new : List ListKind) (l : ListKind)
    → entry ≡ Some line → line ≡ lines.List name sort element separator on unfinished → new ≡ old ++ l ∷ [] → l.name ≡ name → Lasts def (λ full. IsSort full sort l.sort) → Lasts def (λ full. IsKind full element (kinds.Phylum l.element))
    → l.separator ≡ separator → l.lines ≡ on → l.unfinished ≡ unfinished → l.nil_rows ≡ [] → l.cell_rows ≡ [] → Puts def ReadsLists entry rest old new
list-put def entry line name sort element separator on unfinished rest old new l e d grown named of_sort of_elements same_separator same_lines same_end no_nils no_cells =
    puts-line def ReadsLists entry (lines.List name sort element separator on unfinished) rest old new (e ∙ ap Some d)
    (puts-one def ReadsLists (Some (lines.List name sort element separator on unfinished)) rest old new l grown (λ full k tail r. (l, tail, refl, is full k, r)))
  where
    is : Lasts def (λ full. IsList full [] name sort element separator on unfinished l)
    is full k = let of = of_elements full k in record {
      named = named;
      of_sort = of_sort full k;
      of_elements = of;
      same_separator = same_separator;
      same_lines = same_lines;
      same_end = same_end;
      nils = no_nils;
      element_sort = of.0.sort.0;
      elements_sort = (of.0, of.1, refl);
      cells = no_cells;
    }

-- the columns of the parts are those of all items
pub columns-parts : (full : Definition) (items : List Item) (sorts : List ℕ) → AreColumns full items sorts → AreColumns full (part_items items) sorts
columns-parts full [] sorts h = h
columns-parts full (made.Slot k ∷ items) sorts (s, more, e, of, rest) = (s, more, e, of, columns-parts full items more rest)
columns-parts full (made.Refers n ∷ items) sorts (s, more, e, of, rest) = (s, more, e, of, columns-parts full items more rest)
columns-parts full (made.Declares n ∷ items) sorts (s, more, e, of, rest) = (s, more, e, of, columns-parts full items more rest)
columns-parts full (_ ∷ items) sorts h = columns-parts full items sorts h

pub item-put : (def : Definition) (w : LineItem) (rest : List LineItem) (old new : List Item) (i : Item) → new ≡ old ++ i ∷ [] → Lasts def (λ full. IsItem full w i) → Puts def ReadsItems w rest old new
item-put def w rest old new i e is = puts-one def ReadsItems w rest old new i e (λ full k tail r. (i, tail, refl, is full k, r))

-- rows
pub rows-stop : (full : Definition) (head : ℕ) (sorts : List ℕ) (entry : Entry) (rest : List Entry) → IsOperatorEntry entry → ReadsRows head sorts full (entry ∷ rest) []
rows-stop full head sorts (Some (lines.Operator name phylum scope level parts)) rest h = refl
rows-stop full head sorts (Some _) rest h = absurd h
rows-stop full head sorts None rest h = absurd h

pub row-put : (def : Definition) (head : ℕ) (sorts : List ℕ) (entry : Entry) (line : Line) (w : WrittenTerm) (ws : List WrittenTerm) (rest : List Entry) (old new : List Row) (row : Row) → entry ≡ Some line → line ≡ lines.Row w ws → new ≡ old ++ row ∷ []
    → Lasts def (λ full. IsRow full head sorts w ws row) → Puts def (ReadsRows head sorts) entry rest old new
row-put def head sorts entry line w ws rest old new row e d grown is =
    puts-line def (ReadsRows head sorts) entry (lines.Row w ws) rest old new (e ∙ ap Some d)
    (puts-one def (ReadsRows head sorts) (Some (lines.Row w ws)) rest old new row grown (λ full k tail r. (row, tail, refl, is full k, r)))

pub row-passed : (def : Definition) (head : ℕ) (sorts : List ℕ) (entry : Entry) (rest : List Entry) (old new : List Row) → (IsOperatorEntry entry → ⊥) → ((w : WrittenTerm) (ws : List WrittenTerm) → entry ≡ Some (lines.Row w ws) → ⊥) → new ≡ old
    → Puts def (ReadsRows head sorts) entry rest old new
row-passed def head sorts entry rest old new no_operator no_row e = puts-none def (ReadsRows head sorts) entry rest old new e (skip entry no_operator no_row)
  where
    skip : (x : Entry) → (IsOperatorEntry x → ⊥) → ((w : WrittenTerm) (ws : List WrittenTerm) → x ≡ Some (lines.Row w ws) → ⊥) → (full : Definition) (tail : List Row) → ReadsRows head sorts full rest tail → ReadsRows head sorts full (x ∷ rest) tail
    skip None p q full tail r = r
    skip (Some (lines.Operator name phylum scope level parts)) p q full tail r = absurd (p tt)
    skip (Some (lines.Row w ws)) p q full tail r = absurd (q w ws refl)
    skip (Some _) p q full tail r = r

pub operator-put : (def : Definition) (entry : Entry) (line : Line) (name phylum : Name) (scope : Bool) (level : Level) (parts : List LineItem) (behind : List Entry) (old new : List Operator) (op : Operator) (sort : ℕ) (columns : List SortId)
    → entry ≡ Some line → line ≡ lines.Operator name phylum scope level parts → new ≡ old ++ op ∷ [] → op.name ≡ name → Lasts def (λ full. IsKind full phylum (kinds.Phylum op.phylum)) → op.level ≡ level → op.scope ≡ scope
    → Lasts def (λ full. AreItems full parts op.items) → Lasts def (λ full. HasKindSort full (kinds.Phylum op.phylum) sort) → Lasts def (λ full. AreColumns full op.items (numbers_of columns))
    → Lasts def (λ full. AreRows full sort (numbers_of columns) (written behind) op.rows) → Puts def ReadsOperators entry behind old new
operator-put def entry line name phylum scope level parts behind old new op sort columns e d grown named of_phylum same_level same_scope each_item phylum_sort are_columns each_row =
    puts-line def ReadsOperators entry (lines.Operator name phylum scope level parts) behind old new (e ∙ ap Some d)
    (puts-one def ReadsOperators (Some (lines.Operator name phylum scope level parts)) behind old new op grown (λ full k tail r. (op, tail, refl, is full k, r)))
  where
    is : Lasts def (λ full. IsOperator full name phylum scope level parts (written behind) op)
    is full k = record {
      named = named;
      of_phylum = of_phylum full k;
      same_level = same_level;
      same_scope = same_scope;
      each_item = each_item full k;
      sort = sort;
      phylum_sort = phylum_sort full k;
      columns = numbers_of columns;
      are_columns = columns-parts full op.items (numbers_of columns) (are_columns full k);
      each_row = each_row full k;
    }

-- cases
pub cases-stop : (full : Definition) (kind : kinds.the_data) (sort : ℕ) (entry : Entry) (rest : List Entry) → IsHoleEntry entry → ReadsCases kind sort full (entry ∷ rest) []
cases-stop full kind sort (Some (lines.Hole name w specimen)) rest h = refl
cases-stop full kind sort (Some _) rest h = absurd h
cases-stop full kind sort None rest h = absurd h

pub case-put : (def : Definition) (kind : kinds.the_data) (sort : ℕ) (entry : Entry) (line : Line) (w : WrittenTerm) (tree : WrittenTree) (rest : List Entry) (old new : List Case) (one : Case) → entry ≡ Some line → line ≡ lines.Case w tree → new ≡ old ++ one ∷ []
    → Lasts def (λ full. IsCase full kind sort w tree one) → Puts def (ReadsCases kind sort) entry rest old new
case-put def kind sort entry line w tree rest old new one e d grown is =
    puts-line def (ReadsCases kind sort) entry (lines.Case w tree) rest old new (e ∙ ap Some d)
    (puts-one def (ReadsCases kind sort) (Some (lines.Case w tree)) rest old new one grown (λ full k tail r. (one, tail, refl, is full k, r)))

pub case-passed : (def : Definition) (kind : kinds.the_data) (sort : ℕ) (entry : Entry) (rest : List Entry) (old new : List Case) → (IsHoleEntry entry → ⊥) → ((w : WrittenTerm) (tree : WrittenTree) → entry ≡ Some (lines.Case w tree) → ⊥) → new ≡ old
    → Puts def (ReadsCases kind sort) entry rest old new
case-passed def kind sort entry rest old new no_hole no_case e = puts-none def (ReadsCases kind sort) entry rest old new e (skip entry no_hole no_case)
  where
    skip : (x : Entry) → (IsHoleEntry x → ⊥) → ((w : WrittenTerm) (tree : WrittenTree) → x ≡ Some (lines.Case w tree) → ⊥) → (full : Definition) (tail : List Case) → ReadsCases kind sort full rest tail → ReadsCases kind sort full (x ∷ rest) tail
    skip None p q full tail r = r
    skip (Some (lines.Hole name w specimen)) p q full tail r = absurd (p tt)
    skip (Some (lines.Case w tree)) p q full tail r = absurd (q w tree refl)
    skip (Some _) p q full tail r = r

pub hole-put : (def : Definition) (entry : Entry) (line : Line) (kind : Name) (w : WrittenTerm) (specimen : Option WrittenTree) (behind : List Entry) (old new : List HoleRow) (row : HoleRow) → entry ≡ Some line → line ≡ lines.Hole kind w specimen → new ≡ old ++ row ∷ []
    → Lasts def (λ full. IsHoleRow full kind w specimen (written behind) row) → Puts def ReadsHoleRows entry behind old new
hole-put def entry line kind w specimen behind old new row e d grown is =
    puts-line def ReadsHoleRows entry (lines.Hole kind w specimen) behind old new (e ∙ ap Some d)
    (puts-one def ReadsHoleRows (Some (lines.Hole kind w specimen)) behind old new row grown (λ full k tail r. (row, tail, refl, is full k, r)))

-- a hole row whose specimen is shown in its line
pub hole-shown : (def : Definition) (kind : Name) (w : WrittenTerm) (whole : Option WrittenTree) (tree : WrittenTree) (behind : List Line) (row : HoleRow) (sort : ℕ) (one : Case) → whole ≡ Some tree → Lasts def (λ full. IsKind full kind row.kind)
    → Lasts def (λ full. HasKindSort full row.kind sort) → row.cases ≡ one ∷ [] → one.term ≡ row.term → Lasts def (λ full. IsCase full row.kind sort w tree one) → Lasts def (λ full. IsHoleRow full kind w whole behind row)
hole-shown def kind w whole tree behind row sort one e of_kind of_sort cases same is = λ full k. record {
  of_kind = of_kind full k;
  sort = sort;
  kind_sort = of_sort full k;
  has_cases = subst (λ o. HasCases full row.kind sort w o behind row.term row.cases) (sym e) (one, cases, same, is full k);
}

-- one whose cases stand behind its line
pub hole-split : (def : Definition) (kind : Name) (w : WrittenTerm) (whole : Option WrittenTree) (behind : List Line) (row : HoleRow) (sort : ℕ) → whole ≡ None → Lasts def (λ full. IsKind full kind row.kind)
    → Lasts def (λ full. HasKindSort full row.kind sort) → Lasts def (λ full. IsNil full sort w row.term) → Lasts def (λ full. AreCases full row.kind sort behind row.cases) → Lasts def (λ full. IsHoleRow full kind w whole behind row)
hole-split def kind w whole behind row sort e of_kind of_sort term cases = λ full k. record {
  of_kind = of_kind full k;
  sort = sort;
  kind_sort = of_sort full k;
  has_cases = subst (λ o. HasCases full row.kind sort w o behind row.term row.cases) (sym e) (term full k, cases full k);
}

pub slot-item : (def : Definition) (part : LineItem) (n : Name) (kind : kinds.the_data) → part ≡ items.Slot n → Lasts def (λ full. IsKind full n kind) → Lasts def (λ full. IsItem full part (made.Slot kind))
slot-item def part n kind e is = λ full k. subst (λ x. IsItem full x (made.Slot kind)) (sym e) (kind, is full k, refl)

pub refers-item : (def : Definition) (part : LineItem) (n : Name) (s : ℕ) → part ≡ items.Refers n → Lasts def (λ full. IsSpaceNamed full n s) → Lasts def (λ full. IsItem full part (made.Refers s))
refers-item def part n s e is = λ full k. subst (λ x. IsItem full x (made.Refers s)) (sym e) (s, is full k, refl)

pub declares-item : (def : Definition) (part : LineItem) (n : Name) (s : ℕ) → part ≡ items.Declares n → Lasts def (λ full. IsSpaceNamed full n s) → Lasts def (λ full. IsItem full part (made.Declares s))
declares-item def part n s e is = λ full k. subst (λ x. IsItem full x (made.Declares s)) (sym e) (s, is full k, refl)

pub declare-put : (def : Definition) (entry : Entry) (line : Line) (space list : Name) (entity value : WrittenTerm) (tree : WrittenTree) (rest : List Entry) (old new : List DeclareRow) (row : DeclareRow) → entry ≡ Some line → line ≡ lines.Declare space list entity value tree
    → new ≡ old ++ row ∷ [] → Lasts def (λ full. IsDeclareRow full space list entity value tree row) → Puts def ReadsDeclareRows entry rest old new
declare-put def entry line space list entity value tree rest old new row e d grown is =
    puts-line def ReadsDeclareRows entry (lines.Declare space list entity value tree) rest old new (e ∙ ap Some d)
    (puts-one def ReadsDeclareRows (Some (lines.Declare space list entity value tree)) rest old new row grown (λ full k tail r. (row, tail, refl, is full k, r)))
