-- The first condition of acceptance that fails, for its first thing.
use Rattle.std.specs.Prelude.{ℕ, ◌≡◌, ◌⊎◌, ◌<◌, length, slice_get, Some}
use Rattle.psg_grammar.specs.declared.types.Kind.{Kind}
use Rattle.psg_grammar.specs.declared.types.Kind.TheVariants as kinds
use Rattle.psg_grammar.specs.declared.types.Case.{Case}
use Rattle.psg_grammar.specs.declared.types.HoleRow.{HoleRow}
use Rattle.psg_grammar.specs.declared.types.DeclareRow.{DeclareRow}
use Rattle.psg_grammar.specs.declared.types.Definition.{Definition}
use Rattle.psg_grammar.specs.Kinds.{HasKind}
use Rattle.psg_class.specs.Class.{IsClass}
use Rattle.psg_class.specs.Refusal.{IsRefusal as IsClassRefusal, IsOf as IsOfClass}
use Rattle.psg_completions.specs.Cases.{HasCases}
use Rattle.psg_completions.specs.Covered.{IsCoveredRow, IsCoveredNil, IsCoveredCell}
use Rattle.psg_completions.specs.Places.{IsSmallerPlace, IsOpenPlace}
use Rattle.psg_completions.specs.General.{IsGeneralCase, IsGeneralDeclare}
use Rattle.psg_completions.specs.Elements.{IsDeclarable, IsClearRow}
use Rattle.psg_specimen.specs.Declares.{IsDeclaration}
use Rattle.psg_specimen.specs.Conditions.{IsBareScope, IsQuietSlot, HasRow, IsNarrow, MetUpToScopes, MetUpToSlots}
use Rattle.psg_specimen.specs.Conditions.{MetUpToHoleRows, MetUpToRows, MetUpToNils, MetUpToCells, MetUpToCases}
use Rattle.psg_specimen.specs.Conditions.{MetUpToSmaller, MetUpToPlaces, MetUpToNarrow, MetUpToShown, MetUpToDeclares}
use Rattle.psg_specimen.specs.Conditions.{MetUpToDeclarable, IsMet}
use Rattle.psg_specimen.specs.declared.fault.Site.{Site}
use Rattle.psg_specimen.specs.declared.fault.Site.TheVariants as sites
use Rattle.psg_specimen.specs.declared.fault.AcceptFault.{AcceptFault}
use Rattle.psg_specimen.specs.declared.fault.AcceptFault.TheVariants as faults

-- ---- the first thing of which something fails: it fails there, and holds of all things before

-- it fails for the number, and holds of all lesser ones
abbrev pub IsFirst : (ℕ → Type 0) → ℕ → Type 0
IsFirst Holds n = (Holds n → ⊥) × ((m : ℕ) → m < n → Holds m)

-- the pair m, j is before the pair n, k: by the first number, then by the second
abbrev pub IsBefore : ℕ → ℕ → ℕ → ℕ → Type 0
IsBefore m j n k = (m < n) ⊎ ((m ≡ n) × (j < k))

-- it fails for the pair, and holds of all before it
abbrev pub IsFirstOfTwo : (ℕ → ℕ → Type 0) → ℕ → ℕ → Type 0
IsFirstOfTwo Holds n k = (Holds n k → ⊥) × ((m j : ℕ) → IsBefore m j n k → Holds m j)

-- cases of hole rows are before declare rows
abbrev pub IsSiteBefore : Site → Site → Type 0
IsSiteBefore (sites.Hole r c) (sites.Hole s d) = IsBefore r c s d
IsSiteBefore (sites.Hole r c) (sites.Declare k) = Unit {0}
IsSiteBefore (sites.Declare k) (sites.Declare l) = k < l
IsSiteBefore (sites.Declare k) (sites.Hole r c) = ⊥

-- it fails for the site, and holds of all before it
abbrev pub IsFirstSite : (Site → Type 0) → Site → Type 0
IsFirstSite Holds s = (Holds s → ⊥) × ((t : Site) → IsSiteBefore t s → Holds t)

-- it fails for the place of the site, and holds of all places of sites before it and of its own lesser places
abbrev pub IsFirstPlace : (Site → ℕ → Type 0) → Site → ℕ → Type 0
IsFirstPlace Holds s h = (Holds s h → ⊥) × ((t : Site) (k : ℕ) → IsSiteBefore t s → Holds t k)
    × ((k : ℕ) → k < h → Holds s k)

-- it fails for the kind, and holds of all before it; phyla are before lists
abbrev pub IsFirstKind : (Kind → Type 0) → Kind → Type 0
IsFirstKind Holds (kinds.Phylum p) = IsFirst (λ n. Holds (kinds.Phylum n)) p
IsFirstKind Holds (kinds.List l) = ((p : ℕ) → Holds (kinds.Phylum p)) × IsFirst (λ n. Holds (kinds.List n)) l

-- it fails for the three, and holds of all before them: by list, then by space, then by constructor
abbrev pub IsFirstOfThree : (ℕ → ℕ → ℕ → Type 0) → ℕ → ℕ → ℕ → Type 0
IsFirstOfThree Holds l s c = (Holds l s c → ⊥) × ((m t d : ℕ) → (m < l) ⊎ ((m ≡ l) × IsBefore t d s c) → Holds m t d)

module _ (def : Definition) where
  -- ---- what is said of a case of a hole row or of a declare row

  abbrev pub CaseAt : ℕ → ℕ → (Case → Type 0) → Type 0
  CaseAt r c P = (row : HoleRow) → slice_get def.hole_rows r ≡ Some row → (one : Case)
      → slice_get row.cases c ≡ Some one → P one

  abbrev pub DeclareAt : ℕ → (DeclareRow → Type 0) → Type 0
  DeclareAt k P = (d : DeclareRow) → slice_get def.declare_rows k ≡ Some d → P d

  abbrev pub IsSmallerAt : Site → ℕ → Type 0
  IsSmallerAt (sites.Hole r c) h = CaseAt r c (λ one. IsSmallerPlace one.specimen one.term h)
  IsSmallerAt (sites.Declare k) h = DeclareAt k (λ d. IsSmallerPlace d.specimen d.term h)

  abbrev pub IsOpenAt : Site → ℕ → Type 0
  IsOpenAt (sites.Hole r c) h = CaseAt r c (λ one. IsOpenPlace def one.specimen h)
  IsOpenAt (sites.Declare k) h = DeclareAt k (λ d. IsOpenPlace def d.specimen h)

  abbrev pub IsNarrowAt : Site → Type 0
  IsNarrowAt (sites.Hole r c) = CaseAt r c (λ one. IsNarrow def one.specimen)
  IsNarrowAt (sites.Declare k) = DeclareAt k (λ d. IsNarrow def d.specimen)

  abbrev pub IsGeneralAt : Site → Type 0
  IsGeneralAt (sites.Hole r c) = CaseAt r c (λ one. IsGeneralCase def one)
  IsGeneralAt (sites.Declare k) = DeclareAt k (λ d. IsGeneralDeclare def d)

  -- ---- refusals

  -- no condition fails
  pub record IsAccepted : Type 0 where
    pub of_class : IsClass def
    pub met : IsMet def

  -- where a condition is tested all earlier ones hold
  abbrev pub After : Type 0 → Type 0 → Type 0
  After Earlier This = IsClass def × Earlier × This

  -- The fault names the first condition that fails. Out of memory is no refusal.
  abbrev pub IsRefusal : AcceptFault → Type 0
  IsRefusal (faults.Class f) = IsClassRefusal def f
  IsRefusal (faults.Scope o) = IsClass def × IsFirst (IsBareScope def) o
  IsRefusal (faults.Declaring o k) = After (MetUpToScopes def) (IsFirstOfTwo (IsQuietSlot def) o k)
  IsRefusal (faults.NoRow kind) = After (MetUpToSlots def) (IsFirstKind (HasRow def) kind)
  IsRefusal (faults.UncoveredOp o k) = After (MetUpToHoleRows def) (IsFirstOfTwo (IsCoveredRow def) o k)
  IsRefusal (faults.UncoveredNil l k) = After (MetUpToRows def) (IsFirstOfTwo (IsCoveredNil def) l k)
  IsRefusal (faults.UncoveredCell l k) = After (MetUpToNils def) (IsFirstOfTwo (IsCoveredCell def) l k)
  IsRefusal (faults.Cases r) = After (MetUpToCells def) (IsFirst (HasCases def) r)
  IsRefusal (faults.NotSmaller s h) = After (MetUpToCases def) (IsFirstPlace IsSmallerAt s h)
  IsRefusal (faults.OpenHole s h) = After (MetUpToSmaller def) (IsFirstPlace IsOpenAt s h)
  IsRefusal (faults.Large s) = After (MetUpToPlaces def) (IsFirstSite IsNarrowAt s)
  IsRefusal (faults.Weak s) = After (MetUpToNarrow def) (IsFirstSite IsGeneralAt s)
  IsRefusal (faults.NotIt k) = After (MetUpToShown def) (IsFirst (IsDeclaration def) k)
  IsRefusal (faults.NoDeclare l s c) = After (MetUpToDeclares def) (IsFirstOfThree (IsDeclarable def) l s c.0)
  IsRefusal (faults.NotClear k) = After (MetUpToDeclarable def) (IsFirst (IsClearRow def) k)
  IsRefusal faults.Memory = ⊥

  -- the numbers that are written as names are those of things of the definition
  abbrev pub IsOf : AcceptFault → Type 0
  IsOf (faults.Class f) = IsOfClass def f
  IsOf (faults.Scope o) = o < length def.operators
  IsOf (faults.Declaring o k) = o < length def.operators
  IsOf (faults.NoRow kind) = HasKind def kind
  IsOf (faults.UncoveredOp o k) = o < length def.operators
  IsOf (faults.UncoveredNil l k) = l < length def.lists
  IsOf (faults.UncoveredCell l k) = l < length def.lists
  IsOf (faults.Cases r) = Unit {0}
  IsOf (faults.NotSmaller s h) = Unit {0}
  IsOf (faults.OpenHole s h) = Unit {0}
  IsOf (faults.Large s) = Unit {0}
  IsOf (faults.Weak s) = Unit {0}
  IsOf (faults.NotIt k) = Unit {0}
  IsOf (faults.NoDeclare l s c) = (l < length def.lists) × (s < length def.spaces)
      × (c.0 < length def.signature.symbols)
  IsOf (faults.NotClear k) = Unit {0}
  IsOf faults.Memory = ⊥

  -- memory ran out, or the fault is that of the definition
  abbrev pub Refuses : AcceptFault → Type 0
  Refuses f = (f ≡ faults.Memory) ⊎ (IsRefusal f × IsOf f)
