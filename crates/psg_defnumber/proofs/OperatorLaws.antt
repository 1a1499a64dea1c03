-- The operators of a file's lines.
use Rattle.std.proofs.Common.{◌≡◌, Bool, ℕ, ◌≤◌, ◌<◌, ◌^◌, ◌++◌, List, [], ◌∷◌, length, map, codes, ap, sym, subst, arith}
use Rattle.psg_terms.proofs.Lists.{each_at}
use Rattle.std.specs.List.{AllByRecursion}
use Rattle.psg_terms.specs.Names.{Name}
use Rattle.psg_terms.specs.Signature.{AreSorts}
use Rattle.psg_terms.specs.Sound.{IsSound as IsSoundSignature}
use Rattle.psg_grammar.specs.declared.types.Kind.TheVariants as kinds
use Rattle.psg_grammar.specs.declared.types.Level.{Level}
use Rattle.psg_grammar.specs.declared.types.Item.{Item}
use Rattle.psg_grammar.specs.declared.types.Item.TheVariants as made
use Rattle.psg_grammar.specs.declared.types.Operator.{Operator}
use Rattle.psg_grammar.specs.declared.types.Definition.{Definition}
use Rattle.psg_grammar.specs.Lookups.{part_items}
use Rattle.psg_grammar.specs.Sound.{IsOwnName, IsLevel, IsItem, IsOperator, AreColumns}
use Rattle.psg_deflines.specs.Forms.{HasForm, word_if, level_parts, item_part, parts_of}
use Rattle.psg_deflines.specs.declared.lines.LineItem.{LineItem}
use Rattle.psg_deflines.specs.declared.lines.Line.{Line}
use Rattle.psg_deflines.specs.declared.lines.Line.TheVariants as lines
use Rattle.psg_defnumber.specs.Numbers.{AreItems, AreOperators}
use Rattle.psg_defnumber.specs.Soundness.{total}
use Rattle.psg_defnumber.proofs.SpecimenLaws.{AreInside, HaveColumns, kind-inside, space-inside}
use Rattle.psg_defnumber.proofs.TreeWeights.{total-append}
use Rattle.psg_defnumber.proofs.LineSizes.{lines_total, few-lines, items-long}
use Rattle.psg_defnumber.proofs.SoundRows.{rows-are, few-rows}

module _ (def : Definition) where
  columns-inside : AreInside def → (xs : List Item) (sorts : List ℕ) → AreColumns def (part_items xs) sorts
      → AreSorts def.signature sorts
  columns-inside inside [] sorts e = subst (AreSorts def.signature) (sym e) tt
  columns-inside inside (made.Slot k ∷ xs) sorts (s, more, e, sort, h) =
      subst (AreSorts def.signature) (sym e) (kind-inside def inside k s sort, columns-inside inside xs more h)
  columns-inside inside (made.Refers n ∷ xs) sorts (s, more, e, sort, h) =
      subst (AreSorts def.signature) (sym e) (space-inside def inside n s sort, columns-inside inside xs more h)
  columns-inside inside (made.Declares n ∷ xs) sorts (s, more, e, sort, h) =
      subst (AreSorts def.signature) (sym e) (space-inside def inside n s sort, columns-inside inside xs more h)
  columns-inside inside (i ∷ xs) sorts h = columns-inside inside xs sorts h

  items-are : (xs : List Item) (sorts : List ℕ) → AreColumns def (part_items xs) sorts
      → AllByRecursion (IsItem def) xs
  items-are [] sorts e = tt
  items-are (made.Slot k ∷ xs) sorts (s, more, e, sort, h) = ((s, sort), items-are xs more h)
  items-are (made.Refers n ∷ xs) sorts (s, more, e, sort, h) = ((s, sort), items-are xs more h)
  items-are (made.Declares n ∷ xs) sorts (s, more, e, sort, h) = ((s, sort), items-are xs more h)
  items-are (i ∷ xs) sorts h = (tt, items-are xs sorts h)

  items-length : (parts : List LineItem) (xs : List Item) → AreItems def parts xs → length xs ≡ length parts
  items-length [] xs e = ap length e
  items-length (w ∷ ws) xs (i, rest, e, h, hs) = omega (arith, ap length e, items-length ws rest hs)

  operator-long : (name phylum : Name) (scope : Bool) (level : Level) (parts : List LineItem)
      → total (map item_part parts) ≤ total (parts_of (lines.Operator name phylum scope level parts))
  operator-long name phylum scope level parts =
      omega (
        arith,
        total-append (word_if scope (codes "scope")) (level_parts level ++ (codes "=" ∷ map item_part parts)),
        total-append (level_parts level) (codes "=" ∷ map item_part parts),
      )

  pub operators-sound : IsSoundSignature def.signature → AreInside def → (file : List Line) (all : List Operator)
      → lines_total file < 2 ^ 32 → AllByRecursion HasForm file → AreOperators def file all
      → AllByRecursion (IsOperator def) all
  operators-sound sound inside [] all limit form e = subst (AllByRecursion (IsOperator def)) (sym e) tt
  operators-sound sound inside (lines.Operator n p scope level parts ∷ behind) all limit form (op, rest, e, h, hs) =
      let there = kind-inside def inside (kinds.Phylum op.phylum) h.sort h.phylum_sort in
      let columns = columns-inside inside op.items h.columns h.are_columns in
      subst (AllByRecursion (IsOperator def)) (sym e) (
        record {
          name = subst IsOwnName (sym h.named) form.0.0;
          level = subst IsLevel (sym h.same_level) form.0.2;
          sort = h.sort;
          phylum_sort = h.phylum_sort;
          few_items = omega (
            arith,
            items-length parts op.items h.each_item,
            items-long parts form.0.4,
            operator-long n p scope level parts,
          );
          few_rows = omega (arith, few-rows def sound h.sort h.columns behind op.rows h.each_row, few-lines behind);
          each_item = items-are op.items h.columns h.are_columns;
          columns = h.columns;
          are_columns = h.are_columns;
          each_row = rows-are def sound h.sort h.columns behind op.rows there columns h.each_row;
        },
        operators-sound sound inside behind rest (omega arith) form.1 hs,
      )
  operators-sound sound inside (line ∷ behind) all limit form h =
      operators-sound sound inside behind all (omega arith) form.1 h

  pub few-operators : (file : List Line) (all : List Operator) → AreOperators def file all → length all ≤ length file
  few-operators [] all e = omega (arith, ap length e)
  few-operators (lines.Operator name phylum scope level parts ∷ behind) all (op, rest, e, h, hs) =
      omega (arith, ap length e, few-operators behind rest hs)
  few-operators (line ∷ behind) all h = omega (arith, few-operators behind all h)

  abbrev pub HasColumns : Operator → Type 0
  HasColumns op = (sorts : List ℕ) × AreColumns def (part_items op.items) sorts

  pub each-columns : (file : List Line) (all : List Operator) → AreOperators def file all → AllByRecursion HasColumns all
  each-columns [] all e = subst (AllByRecursion HasColumns) (sym e) tt
  each-columns (lines.Operator name phylum scope level parts ∷ behind) all (op, rest, e, h, hs) =
      subst (AllByRecursion HasColumns) (sym e) ((h.columns, h.are_columns), each-columns behind rest hs)
  each-columns (line ∷ behind) all h = each-columns behind all h

  -- what the items of each operator name is there
  pub operators-items : (all : List Operator) → AllByRecursion HasColumns all
      → AllByRecursion (λ (op : Operator). AllByRecursion (IsItem def) op.items) all
  operators-items [] h = tt
  operators-items (op ∷ all) h = (items-are op.items h.0.0 h.0.1, operators-items all h.1)

  pub have-columns : (file : List Line) → AreOperators def file def.operators → HaveColumns def
  have-columns file h o op at = each_at HasColumns def.operators (each-columns file def.operators h) o op at
