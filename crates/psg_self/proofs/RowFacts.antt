-- The rows and hole rows of a definition, by the lines of a file that declares it.
use Rattle.std.proofs.Common.{◌≡◌, ℕ, Option, Some, None, List, [], ◌∷◌, ap, sym, ◌∙◌, subst}
use Rattle.std.specs.List.{AllByRecursion}
use Rattle.psg_terms.proofs.Lists.{slice_get_once}
use Rattle.psg_terms.specs.Names.{Name}
use Rattle.psg_terms.specs.Terms.{Term}
use Rattle.psg_terms.specs.Signature.{Signature}
use Rattle.psg_grammar.specs.declared.types.Kind.{Kind}
use Rattle.psg_grammar.specs.declared.types.Item.{Item}
use Rattle.psg_grammar.specs.declared.types.Item.TheVariants as made
use Rattle.psg_grammar.specs.declared.types.Operator.{Operator}
use Rattle.psg_grammar.specs.declared.types.Row.{Row}
use Rattle.psg_grammar.specs.declared.types.Case.{Case}
use Rattle.psg_grammar.specs.declared.types.HoleRow.{HoleRow}
use Rattle.psg_grammar.specs.declared.types.SpecimenPart.{SpecimenPart, Sub, Name as NamePart, Number, Text}
use Rattle.psg_grammar.specs.declared.types.Specimen.{Specimen, Op', List', Hole, Row_of-Specimen, Row_of-SpecimenPart, end_of-SpecimenPart, more_of-SpecimenPart, end_of-Specimen, more_of-Specimen}
use Rattle.psg_grammar.specs.declared.types.SpecimenHole.{SpecimenHole}
use Rattle.psg_grammar.specs.declared.types.Definition.{Definition}
use Rattle.psg_grammar.specs.Lookups.{part_items}
use Rattle.psg_deflines.specs.WrittenTerms.{WrittenTerm, term_depth}
use Rattle.psg_deflines.specs.WrittenTrees.{WrittenTree}
use Rattle.psg_deflines.specs.WrittenTrees as trees
use Rattle.psg_deflines.specs.declared.lines.Line.{Line}
use Rattle.psg_deflines.specs.declared.lines.Line.TheVariants as lines
use Rattle.psg_defnumber.specs.Numbers.{AreTerms, IsTree, IsPart, AreParts, IsListFrom, IsRow, AreRows, AreOperators, IsCase, AreCases, IsHoleRow, AreHoleRows}
use Rattle.psg_self.proofs.LinesLaid.{IsOwnTree}
use Rattle.psg_self.proofs.FileShape.{rows_in, holes_in}
use Rattle.psg_self.proofs.TreesSame.{depth_of, depth-is}

-- what is said of depths
module _ (Small : ℕ → Type 0) where
  abbrev pub IsSmallRow : Row → Type 0
  IsSmallRow row = Small (depth_of row.head) × AllByRecursion (λ t. Small (depth_of t)) row.columns

  abbrev pub HasSmall : Line → Type 0
  HasSmall (lines.Row w ws) = Small (term_depth w) × AllByRecursion (λ v. Small (term_depth v)) ws
  HasSmall (lines.Hole k w o) = Small (term_depth w)
  HasSmall (lines.Case w tree) = Small (term_depth w)
  HasSmall _ = Unit {0}

terms-small : (Small : ℕ → Type 0) (sig : Signature) (vs : List Name) (sorts : List ℕ) (ws : List WrittenTerm) (ts : List Term)
    → AreTerms sig vs sorts ws ts → AllByRecursion (λ v. Small (term_depth v)) ws → AllByRecursion (λ t. Small (depth_of t)) ts
terms-small Small sig vs [] [] ts h k = subst (AllByRecursion (λ t. Small (depth_of t))) (sym h) tt
terms-small Small sig vs [] (w ∷ ws) ts h k = absurd h
terms-small Small sig vs (s ∷ sorts) [] ts h k = absurd h
terms-small Small sig vs (s ∷ sorts) (w ∷ ws) ts h k =
    subst (AllByRecursion (λ t. Small (depth_of t))) (sym h.4)
    (subst Small (depth-is sig vs [] s w h.0 h.2) k.0, terms-small Small sig vs sorts ws h.1 h.3 k.1)

small-terms : (Small : ℕ → Type 0) (sig : Signature) (vs : List Name) (sorts : List ℕ) (ws : List WrittenTerm) (ts : List Term)
    → AreTerms sig vs sorts ws ts → AllByRecursion (λ t. Small (depth_of t)) ts → AllByRecursion (λ v. Small (term_depth v)) ws
small-terms Small sig vs [] [] ts h k = tt
small-terms Small sig vs [] (w ∷ ws) ts h k = absurd h
small-terms Small sig vs (s ∷ sorts) [] ts h k = absurd h
small-terms Small sig vs (s ∷ sorts) (w ∷ ws) ts h k =
    let all = subst (AllByRecursion (λ t. Small (depth_of t))) h.4 k in
    (subst Small (sym (depth-is sig vs [] s w h.0 h.2)) all.0, small-terms Small sig vs sorts ws h.1 h.3 all.1)

module _ (def : Definition) (Small : ℕ → Type 0) where
  -- ---- rows: from a file to the definition

  row-shallow : (sort : ℕ) (columns : List ℕ) (w : WrittenTerm) (ws : List WrittenTerm) (row : Row) → IsRow def sort columns w ws row
      → Small (term_depth w) → AllByRecursion (λ v. Small (term_depth v)) ws → IsSmallRow Small row
  row-shallow sort columns w ws row r h k = (
    subst Small (depth-is def.signature r.names [] sort w row.head r.of_head) h,
    terms-small Small def.signature r.names columns ws row.columns r.of_columns k,
  )

  rows-shallow : (sort : ℕ) (columns : List ℕ) (ls : List Line) (rows : List Row) → AreRows def sort columns ls rows
      → AllByRecursion (HasSmall Small) ls → AllByRecursion (IsSmallRow Small) rows
  rows-shallow sort columns [] rows h k = subst (AllByRecursion (IsSmallRow Small)) (sym h) tt
  rows-shallow sort columns (lines.Operator n p s l is ∷ ls) rows h k = subst (AllByRecursion (IsSmallRow Small)) (sym h) tt
  rows-shallow sort columns (lines.Row w ws ∷ ls) rows h k =
      subst (AllByRecursion (IsSmallRow Small)) (sym h.2)
      (row-shallow sort columns w ws h.0 h.3 k.0.0 k.0.1, rows-shallow sort columns ls h.1 h.4 k.1)
  rows-shallow sort columns (_ ∷ ls) rows h k = rows-shallow sort columns ls rows h k.1

  pub operators-shallow : (ls : List Line) (all : List Operator) → AreOperators def ls all → AllByRecursion (HasSmall Small) ls
      → AllByRecursion (λ (op : Operator). AllByRecursion (IsSmallRow Small) op.rows) all
  operators-shallow [] all h k = subst (AllByRecursion (λ (op : Operator). AllByRecursion (IsSmallRow Small) op.rows)) (sym h) tt
  operators-shallow (lines.Operator n p s l is ∷ ls) all h k =
      subst (AllByRecursion (λ (op : Operator). AllByRecursion (IsSmallRow Small) op.rows)) (sym h.2)
      (rows-shallow h.3.sort h.3.columns ls h.0.rows h.3.each_row k.1, operators-shallow ls h.1 h.4 k.1)
  operators-shallow (_ ∷ ls) all h k = operators-shallow ls all h k.1

  -- ---- rows: from the definition to a file

  pub record IsRowLine (w : WrittenTerm) (ws : List WrittenTerm) : Type 0 where
    pub sort : ℕ
    pub columns : List ℕ
    pub row : Row
    pub is : IsRow def sort columns w ws row
    pub shallow : Small (term_depth w) × AllByRecursion (λ v. Small (term_depth v)) ws

  abbrev pub IsRightRow : Line → Type 0
  IsRightRow (lines.Row w ws) = IsRowLine w ws
  IsRightRow _ = Unit {0}

  abbrev AllRows : List Operator → Type 0
  AllRows all = AllByRecursion (λ (op : Operator). AllByRecursion (IsSmallRow Small) op.rows) all

  pub rows-right : (sort : ℕ) (columns : List ℕ) (rows : List Row) (ls : List Line) (all : List Operator) → AreRows def sort columns ls rows
      → AllByRecursion (IsSmallRow Small) rows → AreOperators def ls all → AllRows all → AllByRecursion IsRightRow (rows_in ls)
  rows-right sort columns rows [] all h k o a = tt
  rows-right sort columns rows (lines.Operator n p s l is ∷ ls) all h k o a =
      let both = subst AllRows o.2 a in
      rows-right o.3.sort o.3.columns o.0.rows ls o.1 o.3.each_row both.0 o.4 both.1
  rows-right sort columns rows (lines.Row w ws ∷ ls) all h k o a =
      let both = subst (AllByRecursion (IsSmallRow Small)) h.2 k in (
        record {
          sort = sort;
          columns = columns;
          row = h.0;
          is = h.3;
          shallow = (
            subst Small (sym (depth-is def.signature h.3.names [] sort w h.0.head h.3.of_head)) both.0.0,
            small-terms Small def.signature h.3.names columns ws h.0.columns h.3.of_columns both.0.1,
          );
        },
        rows-right sort columns h.1 ls all h.4 both.1 o a,
      )
  rows-right sort columns rows (lines.Sort d ∷ ls) all h k o a = rows-right sort columns rows ls all h k o a
  rows-right sort columns rows (lines.Space n t ∷ ls) all h k o a = rows-right sort columns rows ls all h k o a
  rows-right sort columns rows (lines.Phylum n t b ∷ ls) all h k o a = rows-right sort columns rows ls all h k o a
  rows-right sort columns rows (lines.List n t x w l u ∷ ls) all h k o a = rows-right sort columns rows ls all h k o a
  rows-right sort columns rows (lines.Nil n t ∷ ls) all h k o a = rows-right sort columns rows ls all h k o a
  rows-right sort columns rows (lines.Cell n t u v ∷ ls) all h k o a = rows-right sort columns rows ls all h k o a
  rows-right sort columns rows (lines.Hole n t w ∷ ls) all h k o a = rows-right sort columns rows ls all h k o a
  rows-right sort columns rows (lines.Case t w ∷ ls) all h k o a = rows-right sort columns rows ls all h k o a
  rows-right sort columns rows (lines.Declare x n t u w ∷ ls) all h k o a = rows-right sort columns rows ls all h k o a

  -- ---- specimens of operators alone are written in one way

  abbrev IsFront : WrittenTree → Type 0
  IsFront w = IsOwnTree w

  mutual
    tree-once : (vs us : List Name) (kind : Kind) (s : Specimen) (w v : WrittenTree) → IsTree def vs kind s w → IsTree def us kind s v
        → IsOwnTree w → w ≡ v
    tree-once vs us kind (Op' o shape parts) w v h k own =
        let ops = slice_get_once def.operators o h.1 k.1 h.2.0 k.2.0 in
        let name : h.0 ≡ k.0 = sym h.2.1 ∙ ap (λ (op : Operator). op.name) ops ∙ k.2.1 in
        parts-once vs us (part_items h.1.items) parts (trees.operator h.0) w v h.4
        (subst (λ n. AreParts def us (part_items h.1.items) parts (trees.operator n) v) (sym name)
        (subst (λ (op : Operator). AreParts def us (part_items op.items) parts (trees.operator k.0) v) (sym ops) k.4)) own
    tree-once vs us kind (List' l shape elements rest) w v h k own = absurd (no-list vs l elements rest w h.1 own)
    tree-once vs us kind (Hole p) w v h k own = absurd (subst IsOwnTree h.4 own)

    no-list : {m : _} (vs : List Name) (l : ℕ) (elements : Row_of-Specimen m) (rest : Option SpecimenHole) (w : WrittenTree)
        → IsListFrom def vs l elements rest w → IsOwnTree w → ⊥
    no-list vs l end_of-Specimen None w h own = subst IsOwnTree h own
    no-list vs l end_of-Specimen (Some p) w h own = subst IsOwnTree h.4 own
    no-list vs l (more_of-Specimen s rest) end w h own = subst IsOwnTree h.6 own

    parts-once : {m : _} (vs us : List Name) (is : List Item) (parts : Row_of-SpecimenPart m) (front w v : WrittenTree)
        → AreParts def vs is parts front w → AreParts def us is parts front v → IsOwnTree w → w ≡ v
    parts-once vs us [] end_of-SpecimenPart front w v h k own = h ∙ sym k
    parts-once vs us [] (more_of-SpecimenPart p rest) front w v h k own = absurd h
    parts-once vs us (i ∷ is) end_of-SpecimenPart front w v h k own = absurd h
    parts-once vs us (i ∷ is) (more_of-SpecimenPart p rest) front w v h k own =
        let next = parts-own vs is rest h.0 w h.2 own in
        let same = part-once vs us i p front h.0 k.0 h.1 k.1 next in
        parts-once vs us is rest h.0 w v h.2 (subst (λ x. AreParts def us is rest x v) (sym same) k.2) own

    part-once : (vs us : List Name) (i : Item) (p : SpecimenPart) (front w v : WrittenTree) → IsPart def vs i p front w
        → IsPart def us i p front v → IsOwnTree w → w ≡ v
    part-once vs us (made.Slot k) (Sub s) front w v h g own =
        let both = subst IsOwnTree h.2 own in
        h.2 ∙ ap (trees.with_tree front) (tree-once vs us k s h.0 g.0 h.1 g.1 both.1) ∙ sym g.2
    part-once vs us (made.Refers e) (NamePart n) front w v h g own = h ∙ sym g
    part-once vs us (made.Declares e) (NamePart n) front w v h g own = h ∙ sym g
    part-once vs us made.Number (Number x) front w v h g own = absurd (subst IsOwnTree h.2 own)
    part-once vs us made.Text (Text t) front w v h g own = h ∙ sym g
    part-once vs us _ _ front w v h g own = absurd h

    -- what more parts go on is of operators alone too
    parts-own : {m : _} (vs : List Name) (is : List Item) (parts : Row_of-SpecimenPart m) (front w : WrittenTree)
        → AreParts def vs is parts front w → IsOwnTree w → IsOwnTree front
    parts-own vs [] end_of-SpecimenPart front w h own = subst IsOwnTree h own
    parts-own vs [] (more_of-SpecimenPart p rest) front w h own = absurd h
    parts-own vs (i ∷ is) end_of-SpecimenPart front w h own = absurd h
    parts-own vs (i ∷ is) (more_of-SpecimenPart p rest) front w h own = part-own vs i p front h.0 h.1 (parts-own vs is rest h.0 w h.2 own)

    part-own : (vs : List Name) (i : Item) (p : SpecimenPart) (front w : WrittenTree) → IsPart def vs i p front w → IsOwnTree w → IsOwnTree front
    part-own vs (made.Slot k) (Sub s) front w h own = (subst IsOwnTree h.2 own).0
    part-own vs (made.Refers e) (NamePart n) front w h own = absurd (subst IsOwnTree h own)
    part-own vs (made.Declares e) (NamePart n) front w h own = absurd (subst IsOwnTree h own)
    part-own vs made.Number (Number x) front w h own = absurd (subst IsOwnTree h.2 own)
    part-own vs made.Text (Text t) front w h own = absurd (subst IsOwnTree h own)
    part-own vs _ _ front w h own = absurd h

  -- ---- hole rows: from a file to the definition

  module _ (Good : WrittenTree → Type 0) where
    pub record IsGoodCase (kind : Kind) (one : Case) : Type 0 where
      pub names : List Name
      pub tree : WrittenTree
      pub is : IsTree def names kind one.specimen tree
      pub good : Good tree
      pub shallow : Small (depth_of one.term)

    abbrev pub IsGoodHole : HoleRow → Type 0
    IsGoodHole row = AllByRecursion (IsGoodCase row.kind) row.cases

    -- the specimen of a line, where there is one
    abbrev pub HasGood : Line → Type 0
    HasGood (lines.Hole k t (Some w)) = Good w
    HasGood (lines.Case t w) = Good w
    HasGood _ = Unit {0}

    good-case : (kind : Kind) (sort : ℕ) (w : WrittenTerm) (tree : WrittenTree) (one : Case) → IsCase def kind sort w tree one → Good tree
        → Small (term_depth w) → IsGoodCase kind one
    good-case kind sort w tree one c g k = record {
      names = c.names;
      tree = tree;
      is = c.of_specimen;
      good = g;
      shallow = subst Small (depth-is def.signature c.names [] sort w one.term c.of_term) k;
    }

    cases-good : (kind : Kind) (sort : ℕ) (ls : List Line) (cases : List Case) → AreCases def kind sort ls cases → AllByRecursion HasGood ls
        → AllByRecursion (HasSmall Small) ls → AllByRecursion (IsGoodCase kind) cases
    cases-good kind sort [] cases h g k = subst (AllByRecursion (IsGoodCase kind)) (sym h) tt
    cases-good kind sort (lines.Hole n t w ∷ ls) cases h g k = subst (AllByRecursion (IsGoodCase kind)) (sym h) tt
    cases-good kind sort (lines.Case t w ∷ ls) cases h g k =
        subst (AllByRecursion (IsGoodCase kind)) (sym h.2)
        (good-case kind sort t w h.0 h.3 g.0 k.0, cases-good kind sort ls h.1 h.4 g.1 k.1)
    cases-good kind sort (_ ∷ ls) cases h g k = cases-good kind sort ls cases h g.1 k.1

    hole-good : (kind : Name) (w : WrittenTerm) (o : Option WrittenTree) (ls : List Line) (row : HoleRow) → IsHoleRow def kind w o ls row
        → HasGood (lines.Hole kind w o) → Small (term_depth w) → AllByRecursion HasGood ls → AllByRecursion (HasSmall Small) ls → IsGoodHole row
    hole-good kind w None ls row r g k gs ks = cases-good row.kind r.sort ls row.cases r.has_cases.1 gs ks
    hole-good kind w (Some tree) ls row r g k gs ks =
        let c = r.has_cases in
        subst (AllByRecursion (IsGoodCase row.kind)) (sym c.1) (good-case row.kind r.sort w tree c.0 c.3 g k, tt)

    pub holes-good : (ls : List Line) (all : List HoleRow) → AreHoleRows def ls all → AllByRecursion HasGood ls → AllByRecursion (HasSmall Small) ls
        → AllByRecursion IsGoodHole all
    holes-good [] all h g k = subst (AllByRecursion IsGoodHole) (sym h) tt
    holes-good (lines.Hole n w o ∷ ls) all h g k =
        subst (AllByRecursion IsGoodHole) (sym h.2)
        (hole-good n w o ls h.0 h.3 g.0 k.0 g.1 k.1, holes-good ls h.1 h.4 g.1 k.1)
    holes-good (_ ∷ ls) all h g k = holes-good ls all h g.1 k.1

    -- ---- and back

    pub record IsHoleLine (kind : Name) (w : WrittenTerm) (tree : WrittenTree) : Type 0 where
      pub row : HoleRow
      pub behind : List Line
      pub is : IsHoleRow def kind w (Some tree) behind row
      pub good : Good tree
      pub shallow : Small (term_depth w)

    abbrev pub IsRightHole : Line → Type 0
    IsRightHole (lines.Hole k w (Some tree)) = IsHoleLine k w tree
    IsRightHole _ = Unit {0}

    hole-right : (kind : Name) (w : WrittenTerm) (tree : WrittenTree) (ls : List Line) (row : HoleRow) → IsHoleRow def kind w (Some tree) ls row
        → IsGoodHole row → IsOwnTree tree → IsHoleLine kind w tree
    hole-right kind w tree ls row r g own =
        let c = r.has_cases in
        let good = (subst (AllByRecursion (IsGoodCase row.kind)) c.1 g).0 in
        let same : tree ≡ good.tree = tree-once c.3.names good.names row.kind c.0.specimen tree good.tree c.3.of_specimen good.is own in
        record {
          row = row;
          behind = ls;
          is = r;
          good = subst Good (sym same) good.good;
          shallow = subst Small (sym (depth-is def.signature c.3.names [] r.sort w c.0.term c.3.of_term)) good.shallow;
        }

    abbrev pub HasOwnTree : Line → Type 0
    HasOwnTree (lines.Hole k w (Some tree)) = IsOwnTree tree
    HasOwnTree (lines.Hole k w None) = ⊥
    HasOwnTree _ = Unit {0}

    pub holes-right : (ls : List Line) (all : List HoleRow) → AllByRecursion HasOwnTree ls → AreHoleRows def ls all → AllByRecursion IsGoodHole all
        → AllByRecursion IsRightHole (holes_in ls)
    holes-right [] all o h g = tt
    holes-right (lines.Hole n w None ∷ ls) all o h g = absurd o.0
    holes-right (lines.Hole n w (Some tree) ∷ ls) all o h g =
        let both = subst (AllByRecursion IsGoodHole) h.2 g in
        (hole-right n w tree ls h.0 h.3 both.0 o.0, holes-right ls h.1 o.1 h.4 both.1)
    holes-right (_ ∷ ls) all o h g = holes-right ls all o.1 h g
