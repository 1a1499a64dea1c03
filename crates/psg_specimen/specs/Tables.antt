-- What walks over a definition keep in hand.
use Rattle.std.specs.Prelude.{ℕ, ◌≡◌, ◌↔◌, ◌==◌, ◌&&◌, Bool, true, false, List, [], ◌∷◌, length, slice_get, Some}
use Rattle.std.specs.Prelude.{Vec, Contains}
use Rattle.std.specs.Bool.{beq}
use Rattle.std.specs.HashSet.{HashSet, contains}
use Rattle.std.specs.declared.hash.FoldHasher.{FoldHasher}
use Rattle.std.specs.declared.hash.BuildHasherDefault.{BuildHasherDefault}
use Rattle.std.specs.List.{AllByRecursion}
use Rattle.std.specs.List.Sorted.{IsStrictlyIncreasing}
use Rattle.std.specs.declared.alloc.Global.{Global}
use Rattle.psg_grammar.specs.declared.types.Kind.{Kind}
use Rattle.psg_grammar.specs.declared.types.Kind.TheVariants as kinds
use Rattle.psg_grammar.specs.declared.types.HoleRow.{HoleRow}
use Rattle.psg_grammar.specs.declared.types.Item.{Item}
use Rattle.psg_grammar.specs.declared.types.Item.TheVariants as items
use Rattle.psg_grammar.specs.declared.types.Definition.{Definition}
use Rattle.psg_grammar.specs.Declaring.{is_declaring}
use Rattle.psg_grammar.specs.Kinds.{HasKind}
use Rattle.psg_specimen.specs.declared.forms.Mark.{Mark}

-- the kind of the slot, where the item is one
abbrev pub slots_of : Item → List Kind
slots_of (items.Slot k) = k ∷ []
slots_of _ = []

-- for each phylum the spaces in which it declares
pub record AreTables (def : Definition) (found : List (Vec ℕ Global)) : Type 0 where
  pub one_each : length found ≡ length def.phyla
  pub exact : (p : ℕ) (spaces : Vec ℕ Global) → slice_get found p ≡ Some spaces → (s : ℕ)
      → Contains spaces.items s ↔ (is_declaring def s (kinds.Phylum p) ≡ true)

-- the spaces in which a list declares, ascending
pub record AreSpaces (def : Definition) (list : ℕ) (spaces : List ℕ) : Type 0 where
  pub increasing : IsStrictlyIncreasing spaces
  pub exact : (s : ℕ) → Contains spaces s ↔ (is_declaring def s (kinds.List list) ≡ true)

-- kinds of the definition
abbrev pub AreKinds : Definition → List Kind → Type 0
AreKinds def slots = AllByRecursion (HasKind def) slots

-- ---- marks of kinds

-- a set of marks
abbrev pub Marks : Type 0
Marks = HashSet Mark (BuildHasherDefault FoldHasher)

-- whether the marks are equal
abbrev pub same_mark : Mark → Mark → Bool
same_mark a b = beq a.is_list b.is_list && (a.number == b.number)

-- whether the set has the mark
abbrev pub has_mark : Marks → Mark → Bool
has_mark set k = contains same_mark set k

-- the mark of a kind
abbrev pub mark_of : Kind → Mark
mark_of (kinds.Phylum p) = record { is_list = false; number = p }
mark_of (kinds.List l) = record { is_list = true; number = l }

-- the set has the mark of the list or phylum of this number
abbrev pub IsMarked : Marks → Bool → ℕ → Type 0
IsMarked set list n = has_mark set (record { is_list = list; number = n }) ≡ true

-- some hole row is of the kind
abbrev pub IsRowOf : List HoleRow → Mark → Type 0
IsRowOf rows k = (r : ℕ) × (row : HoleRow) × (slice_get rows r ≡ Some row) × (mark_of row.kind ≡ k)
