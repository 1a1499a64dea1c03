-- The conditions of acceptance after the grammar class, in the order in which they are tested, each by what holds. So
-- an accepted definition has the rows that cover and the choices that show.
use Rattle.std.specs.Prelude.{ℕ, ◌≡◌, true, List, [], ◌∷◌, slice_get, Some}
use Rattle.std.specs.List.{AllByRecursion}
use Rattle.psg_terms.specs.Terms.{Term}
use Rattle.psg_grammar.specs.declared.types.Kind.{Kind}
use Rattle.psg_grammar.specs.declared.types.Kind.TheVariants as kinds
use Rattle.psg_grammar.specs.declared.types.Item.{Item}
use Rattle.psg_grammar.specs.declared.types.Item.TheVariants as items
use Rattle.psg_grammar.specs.declared.types.Operator.{Operator}
use Rattle.psg_grammar.specs.declared.types.HoleRow.{HoleRow}
use Rattle.psg_grammar.specs.declared.types.Specimen.{Specimen}
use Rattle.psg_grammar.specs.declared.types.Definition.{Definition}
use Rattle.psg_grammar.specs.Declaring.{HasHoles}
use Rattle.psg_grammar.specs.Kinds.{HasKind}
use Rattle.psg_grammar.specs.Specimens.{tree_of}
use Rattle.psg_grammar.specs.Steps.{IsWide}
use Rattle.psg_completions.specs.Cases.{HasCases}
use Rattle.psg_completions.specs.Covered.{IsCoveredRow, IsCoveredNil, IsCoveredCell}
use Rattle.psg_completions.specs.Places.{IsSmallerPlace, IsOpenPlace}
use Rattle.psg_completions.specs.General.{IsGeneralCase, IsGeneralDeclare}
use Rattle.psg_completions.specs.Elements.{IsDeclarable, IsClearRow}
use Rattle.psg_completions.specs.Conditions.{EachCase, EachDeclare}
use Rattle.psg_specimen.specs.Declares.{IsDeclaration}

-- the item is a place for a name, used or declared
abbrev pub IsNamePosition : Item → Type 0
IsNamePosition (items.Refers s) = Unit {0}
IsNamePosition (items.Declares s) = Unit {0}
IsNamePosition _ = ⊥

-- the kinds of the slots among the items, in order; a slot's number counts slots alone
abbrev pub slot_kinds : List Item → List Kind
slot_kinds [] = []
slot_kinds (items.Slot k ∷ rest) = k ∷ slot_kinds rest
slot_kinds (_ ∷ rest) = slot_kinds rest

-- a scope operator has no name positions
abbrev pub IsBare : Operator → Type 0
IsBare op = op.scope ≡ true → AllByRecursion (λ i. IsNamePosition i → ⊥) op.items

module _ (def : Definition) where
  abbrev pub IsBareScope : ℕ → Type 0
  IsBareScope o = (op : Operator) → slice_get def.operators o ≡ Some op → IsBare op

  -- a list may declare, and a phylum in no space
  abbrev pub IsQuiet : Kind → Type 0
  IsQuiet (kinds.Phylum p) = HasHoles def (kinds.Phylum p)
  IsQuiet (kinds.List l) = Unit {0}

  abbrev pub IsQuietSlot : ℕ → ℕ → Type 0
  IsQuietSlot o k = (op : Operator) → slice_get def.operators o ≡ Some op → (kind : Kind)
      → slice_get (slot_kinds op.items) k ≡ Some kind → IsQuiet kind

  abbrev pub HasRow : Kind → Type 0
  HasRow kind = HasKind def kind
      → (r : ℕ) × (row : HoleRow) × (slice_get def.hole_rows r ≡ Some row) × (row.kind ≡ kind)

  -- No step of the specimen is too large. Its hole places are further columns of each step, and a specimen that is a
  -- hole place alone has no step.
  abbrev pub IsNarrow : Specimen → Type 0
  IsNarrow specimen = IsWide def (tree_of specimen) → ⊥

  -- what holds of a specimen and the term in which its places' terms have to be smaller, for all of them
  abbrev pub EachBounded : (Specimen → Term → Type 0) → Type 0
  EachBounded P = EachCase def (λ r c row one. P one.specimen one.term) × EachDeclare def (λ k d. P d.specimen d.term)

  -- ---- the conditions up to the named one hold: up to hole rows, the first three

  abbrev pub MetUpToScopes : Type 0
  MetUpToScopes = (o : ℕ) → IsBareScope o

  abbrev pub MetUpToSlots : Type 0
  MetUpToSlots = MetUpToScopes × ((o k : ℕ) → IsQuietSlot o k)

  abbrev pub MetUpToHoleRows : Type 0
  MetUpToHoleRows = MetUpToSlots × ((kind : Kind) → HasRow kind)

  abbrev pub MetUpToRows : Type 0
  MetUpToRows = MetUpToHoleRows × ((o k : ℕ) → IsCoveredRow def o k)

  abbrev pub MetUpToNils : Type 0
  MetUpToNils = MetUpToRows × ((l k : ℕ) → IsCoveredNil def l k)

  abbrev pub MetUpToCells : Type 0
  MetUpToCells = MetUpToNils × ((l k : ℕ) → IsCoveredCell def l k)

  abbrev pub MetUpToCases : Type 0
  MetUpToCases = MetUpToCells × ((r : ℕ) → HasCases def r)

  abbrev pub MetUpToSmaller : Type 0
  MetUpToSmaller = MetUpToCases × EachBounded (λ specimen bound. (h : ℕ) → IsSmallerPlace specimen bound h)

  abbrev pub MetUpToPlaces : Type 0
  MetUpToPlaces = MetUpToSmaller × EachBounded (λ specimen bound. (h : ℕ) → IsOpenPlace def specimen h)

  abbrev pub MetUpToNarrow : Type 0
  MetUpToNarrow = MetUpToPlaces × EachBounded (λ specimen bound. IsNarrow specimen)

  abbrev pub MetUpToShown : Type 0
  MetUpToShown = MetUpToNarrow × EachCase def (λ r c row one. IsGeneralCase def one)
      × EachDeclare def (λ k d. IsGeneralDeclare def d)

  abbrev pub MetUpToDeclares : Type 0
  MetUpToDeclares = MetUpToShown × ((k : ℕ) → IsDeclaration def k)

  abbrev pub MetUpToDeclarable : Type 0
  MetUpToDeclarable = MetUpToDeclares × ((l s c : ℕ) → IsDeclarable def l s c)

  -- all hold
  abbrev pub IsMet : Type 0
  IsMet = MetUpToDeclarable × ((k : ℕ) → IsClearRow def k)
