-- The rows of a file's lines.
use Rattle.std.proofs.Common.{inl, inr, ℕ, ◌≤◌, List, [], ◌∷◌, length, ap, sym, subst, arith}
use Rattle.std.specs.List.{AllByRecursion}
use Rattle.psg_terms.specs.Names.{Name}
use Rattle.psg_terms.specs.Terms.{Term}
use Rattle.psg_terms.specs.Signature.{AreSorts}
use Rattle.psg_terms.specs.Sound.{IsSound as IsSoundSignature}
use Rattle.psg_grammar.specs.declared.types.Row.{Row}
use Rattle.psg_grammar.specs.declared.types.Definition.{Definition}
use Rattle.psg_grammar.specs.Sound.{IsTermOf, IsRow}
use Rattle.psg_deflines.specs.WrittenTerms.{WrittenTerm}
use Rattle.psg_deflines.specs.declared.lines.Line.{Line}
use Rattle.psg_deflines.specs.declared.lines.Line.TheVariants as lines
use Rattle.psg_defnumber.specs.Numbers as numbers
use Rattle.psg_defnumber.specs.Numbers.{IsNil, AreRows, AreNils, AreCells}
use Rattle.psg_defnumber.proofs.SpecimenLaws.{IsInside}
use Rattle.psg_defnumber.proofs.TermSorts.{term-takes, terms-take}

module _ (def : Definition) (sound : IsSoundSignature def.signature) where
  abbrev IsNilOf : ℕ → Term → Type 0
  IsNilOf sort t = IsTermOf def t sort

  abbrev IsCellOf : ℕ → ℕ → Row → Type 0
  IsCellOf sort elements row = IsRow def sort (elements ∷ sort ∷ []) row

  pub nil-is : (sort : ℕ) (w : WrittenTerm) (t : Term) → IsInside def sort → IsNil def sort w t → IsTermOf def t sort
  nil-is sort w t inside h = term-takes def.signature sound h.names w [] sort t inside h.of_term

  row-is : (head : ℕ) (sorts : List ℕ) (w : WrittenTerm) (ws : List WrittenTerm) (row : Row) → IsInside def head
      → AreSorts def.signature sorts → numbers.IsRow def head sorts w ws row → IsRow def head sorts row
  row-is head sorts w ws row inside all h =
      let columns = terms-take def.signature sound h.names sorts ws row.columns all h.of_columns in
      record {
        of_head = term-takes def.signature sound h.names w [] head row.head inside h.of_head;
        of_columns = columns.0;
        written = columns.1;
      }

  -- ---- of an operator

  pub rows-are : (head : ℕ) (sorts : List ℕ) (behind : List Line) (rows : List Row) → IsInside def head
      → AreSorts def.signature sorts → AreRows def head sorts behind rows → AllByRecursion (IsRow def head sorts) rows
  rows-are head sorts [] rows inside all e = subst (AllByRecursion (IsRow def head sorts)) (sym e) tt
  rows-are head sorts (lines.Operator name phylum scope level parts ∷ behind) rows inside all e =
      subst (AllByRecursion (IsRow def head sorts)) (sym e) tt
  rows-are head sorts (lines.Row w ws ∷ behind) rows inside all (row, rest, e, h, hs) =
      subst (AllByRecursion (IsRow def head sorts)) (sym e) (
        row-is head sorts w ws row inside all h,
        rows-are head sorts behind rest inside all hs,
      )
  rows-are head sorts (line ∷ behind) rows inside all h = rows-are head sorts behind rows inside all h

  pub few-rows : (head : ℕ) (sorts : List ℕ) (behind : List Line) (rows : List Row)
      → AreRows def head sorts behind rows → length rows ≤ length behind
  few-rows head sorts [] rows e = omega (arith, ap length e)
  few-rows head sorts (lines.Operator name phylum scope level parts ∷ behind) rows e = omega (arith, ap length e)
  few-rows head sorts (lines.Row w ws ∷ behind) rows (row, rest, e, h, hs) =
      omega (arith, ap length e, few-rows head sorts behind rest hs)
  few-rows head sorts (line ∷ behind) rows h = omega (arith, few-rows head sorts behind rows h)

  -- ---- of a list

  pub nils-are : (list : Name) (sort : ℕ) (file : List Line) (rows : List Term) → IsInside def sort
      → AreNils def list sort file rows → AllByRecursion (IsNilOf sort) rows
  nils-are list sort [] rows inside e = subst (AllByRecursion (IsNilOf sort)) (sym e) tt
  nils-are list sort (lines.Nil of_list w ∷ behind) rows inside (inl (same, t, rest, e, h, hs)) =
      subst (AllByRecursion (IsNilOf sort)) (sym e) (nil-is sort w t inside h, nils-are list sort behind rest inside hs)
  nils-are list sort (lines.Nil of_list w ∷ behind) rows inside (inr (other, hs)) =
      nils-are list sort behind rows inside hs
  nils-are list sort (line ∷ behind) rows inside h = nils-are list sort behind rows inside h

  pub few-nils : (list : Name) (sort : ℕ) (file : List Line) (rows : List Term) → AreNils def list sort file rows
      → length rows ≤ length file
  few-nils list sort [] rows e = omega (arith, ap length e)
  few-nils list sort (lines.Nil of_list w ∷ behind) rows (inl (same, t, rest, e, h, hs)) =
      omega (arith, ap length e, few-nils list sort behind rest hs)
  few-nils list sort (lines.Nil of_list w ∷ behind) rows (inr (other, hs)) =
      omega (arith, few-nils list sort behind rows hs)
  few-nils list sort (line ∷ behind) rows h = omega (arith, few-nils list sort behind rows h)

  pub cells-are : (list : Name) (sort elements : ℕ) (file : List Line) (rows : List Row) → IsInside def sort
      → IsInside def elements → AreCells def list sort elements file rows
      → AllByRecursion (IsCellOf sort elements) rows
  cells-are list sort elements [] rows inside there e = subst (AllByRecursion (IsCellOf sort elements)) (sym e) tt
  cells-are list sort elements (lines.Cell of_list w a b ∷ behind) rows inside there (inl (same, row, rest, e, h, hs)) =
      subst (AllByRecursion (IsCellOf sort elements)) (sym e) (
        row-is sort (elements ∷ sort ∷ []) w (a ∷ b ∷ []) row inside (there, (inside, tt)) h,
        cells-are list sort elements behind rest inside there hs,
      )
  cells-are list sort elements (lines.Cell of_list w first more ∷ behind) rows inside there (inr (other, hs)) =
      cells-are list sort elements behind rows inside there hs
  cells-are list sort elements (line ∷ behind) rows inside there h =
      cells-are list sort elements behind rows inside there h

  pub few-cells : (list : Name) (sort elements : ℕ) (file : List Line) (rows : List Row)
      → AreCells def list sort elements file rows → length rows ≤ length file
  few-cells list sort elements [] rows e = omega (arith, ap length e)
  few-cells list sort elements (lines.Cell of_list w first more ∷ behind) rows (inl (same, row, rest, e, h, hs)) =
      omega (arith, ap length e, few-cells list sort elements behind rest hs)
  few-cells list sort elements (lines.Cell of_list w first more ∷ behind) rows (inr (other, hs)) =
      omega (arith, few-cells list sort elements behind rows hs)
  few-cells list sort elements (line ∷ behind) rows h = omega (arith, few-cells list sort elements behind rows h)
