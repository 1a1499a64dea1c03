-- Lists that are made line by line.
use Rattle.std.specs.Prelude.{ℕ, ◌≡◌, List, [], ◌∷◌, ◌++◌, Some}
use Rattle.psg_terms.specs.Kept.{numbers_of}
use Rattle.psg_terms.specs.declared.sorts.SortId.{SortId}
use Rattle.psg_grammar.specs.declared.types.Item.{Item}
use Rattle.psg_grammar.specs.declared.types.Kind.{Kind}
use Rattle.psg_grammar.specs.declared.types.Definition.{Definition}
use Rattle.psg_grammar.specs.declared.types.Space.{Space}
use Rattle.psg_grammar.specs.declared.types.Phylum.{Phylum}
use Rattle.psg_grammar.specs.declared.types.ListKind.{ListKind}
use Rattle.psg_grammar.specs.declared.types.Operator.{Operator}
use Rattle.psg_grammar.specs.declared.types.Row.{Row}
use Rattle.psg_grammar.specs.declared.types.Case.{Case}
use Rattle.psg_grammar.specs.declared.types.HoleRow.{HoleRow}
use Rattle.psg_grammar.specs.declared.types.DeclareRow.{DeclareRow}
use Rattle.psg_grammar.specs.Sound.{AreColumns}
use Rattle.psg_deflines.specs.Entries.{Entry, written}
use Rattle.psg_deflines.specs.declared.lines.Line.TheVariants as lines
use Rattle.psg_deflines.specs.declared.lines.LineItem.{LineItem}
use Rattle.psg_defcheck.specs.Scopes.{spaces}
use Rattle.psg_defnumber.specs.Growing.{Lasts}
use Rattle.psg_defnumber.specs.Numbers.{AreSpaces, ArePhyla, AreLists, AreItems, AreOperators, AreRows, AreCases}
use Rattle.psg_defnumber.specs.Numbers.{AreHoleRows, AreDeclareRows}

-- what the list is that is made of such parts
abbrev pub Read : Type 0 → Type 0 → Type 1
Read X Y = Definition → List X → List Y → Type 0

-- the part adds these items to what the parts after it make
pub record Puts {X Y : Type 0} (def : Definition) (Reads : Read X Y) (x : X) (rest : List X)
    (old new : List Y) : Type 0 where
  pub added : List Y
  pub grown : new ≡ old ++ added
  pub read : Lasts def (λ full. (tail : List Y) → Reads full rest tail → Reads full (x ∷ rest) (added ++ tail))

-- the spaces of the entries
abbrev pub ReadsSpaces : Read Entry Space
ReadsSpaces full entries all = AreSpaces full (spaces (written entries)) all

-- the phyla of the entries
abbrev pub ReadsPhyla : Read Entry Phylum
ReadsPhyla full entries all = ArePhyla full (written entries) all

-- lists without rows
abbrev pub ReadsLists : Read Entry ListKind
ReadsLists full entries all = AreLists full [] (written entries) all

-- the operators of the entries, with their rows
abbrev pub ReadsOperators : Read Entry Operator
ReadsOperators full entries all = AreOperators full (written entries) all

-- the rows before the next operator, with a value and columns of these sorts
abbrev pub ReadsRows : ℕ → List ℕ → Read Entry Row
ReadsRows head sorts full entries all = AreRows full head sorts (written entries) all

-- the sorts of the items' columns
abbrev pub ReadsColumns : Read Item SortId
ReadsColumns full items all = AreColumns full items (numbers_of all)

-- the cases before the next hole row, of the kind and the sort
abbrev pub ReadsCases : Kind → ℕ → Read Entry Case
ReadsCases kind sort full entries all = AreCases full kind sort (written entries) all

-- the hole rows of the entries, with their cases
abbrev pub ReadsHoleRows : Read Entry HoleRow
ReadsHoleRows full entries all = AreHoleRows full (written entries) all

-- the declare rows of the entries
abbrev pub ReadsDeclareRows : Read Entry DeclareRow
ReadsDeclareRows full entries all = AreDeclareRows full (written entries) all

-- the items of the parts, one by one
abbrev pub ReadsItems : Read LineItem Item
ReadsItems full parts all = AreItems full parts all

-- an operator's line, a hole row's line
abbrev pub IsOperatorEntry : Entry → Type 0
IsOperatorEntry (Some (lines.Operator name phylum scope level parts)) = Unit {0}
IsOperatorEntry _ = ⊥

-- a hole row's line
abbrev pub IsHoleEntry : Entry → Type 0
IsHoleEntry (Some (lines.Hole kind term specimen)) = Unit {0}
IsHoleEntry _ = ⊥
