-- The operators in the lines that write a definition, each with its rows.
use Rattle.std.proofs.Common.{◌≡◌, ◌≢◌, ℕ, ◌<◌, ◌≤◌, false, List, [], ◌∷◌, ◌++◌, map, refl, ap, sym, ◌∙◌, subst, arith}
use Rattle.std.specs.List.{AllByRecursion, flat_map}
use Rattle.psg_terms.specs.Names.{Name, has_twice}
use Rattle.psg_terms.specs.Sound.{IsSound as IsSoundSignature}
use Rattle.psg_grammar.specs.declared.types.Kind.{Kind}
use Rattle.psg_grammar.specs.declared.types.Kind.TheVariants as kinds
use Rattle.psg_grammar.specs.declared.types.Item.{Item}
use Rattle.psg_grammar.specs.declared.types.Phylum.{Phylum}
use Rattle.psg_grammar.specs.declared.types.ListKind.{ListKind}
use Rattle.psg_grammar.specs.declared.types.Operator.{Operator}
use Rattle.psg_grammar.specs.declared.types.Row.{Row}
use Rattle.psg_grammar.specs.declared.types.Definition.{Definition}
use Rattle.psg_grammar.specs.Sound.{IsSound}
use Rattle.psg_deflines.specs.declared.lines.LineItem.{LineItem}
use Rattle.psg_deflines.specs.declared.lines.LineItem.TheVariants as items
use Rattle.psg_deflines.specs.declared.lines.Line.{Line}
use Rattle.psg_deflines.specs.declared.lines.Line.TheVariants as lines
use Rattle.psg_defcheck.specs.Scopes.{operator_names}
use Rattle.psg_defnumber.specs.Numbers.{IsKind, IsItem, AreItems, AreRows, IsOperator, AreOperators}
use Rattle.psg_defread.specs.Layout.{rank}
use Rattle.psg_defread.specs.WrittenLines.{lines_of, kind_name, item_written, row_line, operator_lines}
use Rattle.psg_defread.proofs.NumberNames.{name-found}
use Rattle.psg_defread.proofs.NumberRows.{IsSmallRow, row-again}
use Rattle.psg_defread.proofs.Origins.{IsFormed, OfRow, OfOperator}
use Rattle.psg_defread.proofs.Blocks.{from_nils, flat-front, last-blocks, first-blocks}
use Rattle.psg_defread.proofs.NumberSpaces.{space-again}

abbrev pub HasSmallRows : Operator → Type 0
HasSmallRows op = AllByRecursion IsSmallRow op.rows

-- a kind with a name has the name that is written for it
pub kind-renamed : (def : Definition) (n : Name) (kind : Kind) → IsKind def n kind
    → IsKind def (kind_name def kind) kind
kind-renamed def n (kinds.Phylum p) (k, at, e) = (k, at, sym (name-found (λ (x : Phylum). x.name) def.phyla p k at))
kind-renamed def n (kinds.List l) (k, at, e) = (k, at, sym (name-found (λ (x : ListKind). x.name) def.lists l k at))

module _ (def : Definition) where
  abbrev IsItemAgain : Item → Type 0
  IsItemAgain i = IsItem def (item_written def i) i

  item-again : (w : LineItem) (i : Item) → IsItem def w i → IsItem def (item_written def i) i
  item-again (items.Slot n) i (k, is, e) = subst IsItemAgain (sym e) (k, kind-renamed def n k is, refl)
  item-again (items.Word w) i e = subst IsItemAgain (sym e) refl
  item-again (items.Refers n) i (s, is, e) = subst IsItemAgain (sym e) (s, space-again def n s is, refl)
  item-again (items.Declares n) i (s, is, e) = subst IsItemAgain (sym e) (s, space-again def n s is, refl)
  item-again items.Number i e = subst IsItemAgain (sym e) refl
  item-again items.Text i e = subst IsItemAgain (sym e) refl
  item-again items.Space i e = subst IsItemAgain (sym e) refl
  item-again items.Tight i e = subst IsItemAgain (sym e) refl
  item-again items.Line i e = subst IsItemAgain (sym e) refl
  item-again items.In i e = subst IsItemAgain (sym e) refl
  item-again items.Out i e = subst IsItemAgain (sym e) refl

  items-again : (ws : List LineItem) (all : List Item) → AreItems def ws all
      → AreItems def (map (item_written def) all) all
  items-again [] all e = subst (λ is. AreItems def (map (item_written def) is) is) (sym e) refl
  items-again (w ∷ ws) all (i, rest, e, h, hs) =
      subst (λ is. AreItems def (map (item_written def) is) is) (sym e) (
        i,
        rest,
        refl,
        item-again w i h,
        items-again ws rest hs,
      )

  -- ---- in the lines

  rows-in : IsSoundSignature def.signature → (head : ℕ) (sorts : List ℕ) (rows : List Row) (more : List Line)
      → AllByRecursion (OfRow def IsFormed head sorts) rows → AllByRecursion IsSmallRow rows
      → AreRows def head sorts more [] → AreRows def head sorts (map (row_line def) rows ++ more) rows
  rows-in sound head sorts [] more of few none = none
  rows-in sound head sorts (row ∷ rest) more of few none =
      let first = row-again def sound head sorts of.0.term of.0.columns row few.0 of.0.is in
      (row, rest, refl, first, rows-in sound head sorts rest more of.1 few.1 none)

  past-rows : (rows : List Row) (more : List Line) (all : List Operator) → AreOperators def more all
      → AreOperators def (map (row_line def) rows ++ more) all
  past-rows [] more all h = h
  past-rows (row ∷ rest) more all h = past-rows rest more all h

  abbrev HasNoRows : List Line → Type 0
  HasNoRows tail = (head : ℕ) (sorts : List ℕ) → AreRows def head sorts tail []

  no-rows : (all : List Operator) (tail : List Line) → HasNoRows tail
      → HasNoRows (flat_map (operator_lines def) all ++ tail)
  no-rows [] tail none = none
  no-rows (op ∷ rest) tail none = λ head sorts. refl

  operators-in : IsSoundSignature def.signature → (all : List Operator) (tail : List Line)
      → AllByRecursion (OfOperator def IsFormed) all → AllByRecursion HasSmallRows all → HasNoRows tail
      → AreOperators def tail [] → AreOperators def (flat_map (operator_lines def) all ++ tail) all
  operators-in sound [] tail of few none last = last
  operators-in sound (op ∷ rest) tail of few none last =
      let more = flat_map (operator_lines def) rest ++ tail in
      let is = of.0.is in
      let end = no-rows rest tail none in
      let first : IsOperator def op.name (kind_name def (kinds.Phylum op.phylum)) op.scope op.level
      (map (item_written def) op.items) (map (row_line def) op.rows ++ more) op = record {
        named = refl;
        of_phylum = kind-renamed def of.0.phylum (kinds.Phylum op.phylum) is.of_phylum;
        same_level = refl;
        same_scope = refl;
        each_item = items-again of.0.parts op.items is.each_item;
        sort = is.sort;
        phylum_sort = is.phylum_sort;
        columns = is.columns;
        are_columns = is.are_columns;
        each_row = rows-in sound is.sort is.columns op.rows more of.0.rows few.0 (end is.sort is.columns);
      } in
      flat-front (λ ls. AreOperators def ls (op ∷ rest)) (operator_lines def) op rest tail (
        op,
        rest,
        refl,
        first,
        past-rows op.rows more rest (operators-in sound rest tail of.1 few.1 none last),
      )

  operators-step : (all : List Operator) (line : Line) (rest : List Line) → rank line ≢ 4 → AreOperators def rest all
      → AreOperators def (line ∷ rest) all
  operators-step all (lines.Operator name phylum scope level parts) rest h w = absurd (h refl)
  operators-step all line rest h w = w

  rows-step : (head : ℕ) (sorts : List ℕ) (line : Line) (rest : List Line) → rank line ≢ 4
      → AreRows def head sorts rest [] → AreRows def head sorts (line ∷ rest) []
  rows-step head sorts (lines.Operator name phylum scope level parts) rest h w = absurd (h refl)
  rows-step head sorts (lines.Row w ws) rest h e = absurd (h refl)
  rows-step head sorts line rest h w = w

  abbrev IsFree : ℕ → Type 0
  IsFree r = r ≢ 4

  free : (r : ℕ) → 5 ≤ r → r ≢ 4
  free r h e = omega (arith, h, e)

  free-below : (r : ℕ) → r < 4 → r ≢ 4
  free-below r h e = omega (arith, h, e)

  pub operators-are : IsSoundSignature def.signature → AllByRecursion (OfOperator def IsFormed) def.operators
      → AllByRecursion HasSmallRows def.operators → AreOperators def (lines_of def) def.operators
  operators-are sound of few =
      first-blocks 4 IsFree (λ ls. AreOperators def ls def.operators) (operators-step def.operators) def free-below
      (operators-in sound def.operators (from_nils def) of few
      (λ head sorts.
      last-blocks 5 IsFree (λ ls. AreRows def head sorts ls []) (rows-step head sorts) def free refl)
      (last-blocks 5 IsFree (λ ls. AreOperators def ls []) (operators-step []) def free refl))

  -- ---- names

  names-past-rows : (rows : List Row) (more : List Line) (names : List Name) → operator_names more ≡ names
      → operator_names (map (row_line def) rows ++ more) ≡ names
  names-past-rows [] more names e = e
  names-past-rows (row ∷ rest) more names e = names-past-rows rest more names e

  names-in : (all : List Operator) (tail : List Line) → operator_names tail ≡ []
      → operator_names (flat_map (operator_lines def) all ++ tail) ≡ map (λ (o : Operator). o.name) all
  names-in [] tail none = none
  names-in (op ∷ rest) tail none =
      let more = flat_map (operator_lines def) rest ++ tail in
      let names = map (λ (o : Operator). o.name) rest in
      flat-front (λ ls. operator_names ls ≡ op.name ∷ names) (operator_lines def) op rest tail
      (ap (λ l. op.name ∷ l) (names-past-rows op.rows more names (names-in rest tail none)))

  names-step : (names : List Name) (line : Line) (rest : List Line) → rank line ≢ 4 → operator_names rest ≡ names
      → operator_names (line ∷ rest) ≡ names
  names-step names (lines.Operator name phylum scope level parts) rest h e = absurd (h refl)
  names-step names line rest h e = e

  operator-names-are : operator_names (lines_of def) ≡ map (λ (o : Operator). o.name) def.operators
  operator-names-are =
      let names = map (λ (o : Operator). o.name) def.operators in
      first-blocks 4 IsFree (λ ls. operator_names ls ≡ names) (names-step names) def free-below
      (names-in def.operators (from_nils def)
      (last-blocks 5 IsFree (λ ls. operator_names ls ≡ []) (names-step []) def free refl))

  pub operators-once : IsSound def → has_twice (operator_names (lines_of def)) ≡ false
  operators-once h = ap has_twice operator-names-are ∙ h.operator_names
