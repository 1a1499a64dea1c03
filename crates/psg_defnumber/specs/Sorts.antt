-- Terms at places of their own sorts. A variable has one sort in all its line.
use Rattle.std.specs.Prelude.{ℕ, ◌≡◌, ◌⊎◌, List, [], ◌∷◌, ◌++◌, map, Some, None, slice_get}
use Rattle.std.specs.List.{AllByRecursion}
use Rattle.psg_terms.specs.Names.{Name}
use Rattle.psg_terms.specs.Signature.{Symbol}
use Rattle.psg_deflines.specs.WrittenTerms.{WrittenTerm}
use Rattle.psg_deflines.specs.declared.lines.Line.{Line}
use Rattle.psg_deflines.specs.declared.lines.Line.TheVariants as lines
use Rattle.psg_defcheck.specs.Scopes.{Place, sort_names, sort_place, Constructor}
use Rattle.psg_defcheck.specs.Meanings.{SortsTerm, SortAll}
use Rattle.psg_defnumber.specs.Naming.{LineVariable}

module _ (file : List Line) where
  -- the place is that of the sort with the number
  abbrev pub IsSortOf : Place → ℕ → Type 0
  IsSortOf None s = ⊥
  IsSortOf (Some n) s = slice_get (sort_names file) s ≡ Some n

  -- one by one
  abbrev pub AreSortsOf : List Place → List ℕ → Type 0
  AreSortsOf [] [] = Unit {0}
  AreSortsOf [] (s ∷ sorts) = ⊥
  AreSortsOf (p ∷ places) [] = ⊥
  AreSortsOf (p ∷ places) (s ∷ sorts) = IsSortOf p s × AreSortsOf places sorts

  -- the symbol has the sort of the constructor, and arguments of its arguments' sorts
  pub record IsSymbolOf (c : Constructor) (s : Symbol) : Type 0 where
    pub sort : IsSortOf (Some c.0) s.sort
    pub arguments : AreSortsOf (map (sort_place file) c.1.args) s.arguments

  -- the names that are met have these sorts
  abbrev pub Agree : (Name → Name) → List LineVariable → Type 0
  Agree sorts known = AllByRecursion (λ (k : LineVariable). IsSortOf (Some (sorts k.0.now)) k.1.0) known

  -- it holds for some sorts of the variables, which those have that are met
  abbrev pub ForSomeSorts : List LineVariable → ((Name → Name) → Type 0) → Type 0
  ForSomeSorts known Holds = (sorts : Name → Name) × Agree sorts known × Holds sorts

  -- whatever sorts of the variables it holds for: if the old ones have these, the new ones do
  abbrev pub StaysSorted : List LineVariable → List LineVariable → ((Name → Name) → Type 0) → Type 0
  StaysSorted old new Holds = (sorts : Name → Name) → Agree sorts old → Holds sorts → Agree sorts new

  module _ (sorts : Name → Name) where
    -- the term may be at the place of the sort
    pub record TermStands (sort : ℕ) (w : WrittenTerm) : Type 0 where
      pub spot : Place
      pub place : IsSortOf spot sort
      pub sorted : SortsTerm file sorts [] spot w

    -- the terms may be at the places of the sorts, one by one
    pub record TermsStand (all : List ℕ) (ws : List WrittenTerm) : Type 0 where
      pub spots : List Place
      pub place : AreSortsOf spots all
      pub sorted : SortAll file sorts spots ws

    -- the rows before the next operator's line may be those of an operator with a value and columns of these sorts
    abbrev pub RowStands : ℕ → List ℕ → WrittenTerm → List WrittenTerm → Type 0
    RowStands sort columns head ws = TermStands sort head × TermsStand columns ws

  abbrev pub RowsStand : ℕ → List ℕ → List Line → Type 0
  RowsStand sort columns [] = Unit {0}
  RowsStand sort columns (lines.Operator name phylum scope level made ∷ rest) = Unit {0}
  RowsStand sort columns (lines.Row head ws ∷ rest) =
      ((sorts : Name → Name) × RowStands sorts sort columns head ws) × RowsStand sort columns rest
  RowsStand sort columns (_ ∷ rest) = RowsStand sort columns rest

-- a known name is not this one, or it has this sort
abbrev pub HasOneSort : Name → ℕ → LineVariable → Type 0
HasOneSort name sort k = k.0.now ≡ name → k.1.0 ≡ sort

-- the known name is that one, of that sort
pub record IsKnownAs (name : Name) (sort : ℕ) (k : LineVariable) : Type 0 where
  pub named : k.0.now ≡ name
  pub sorted : k.1.0 ≡ sort

-- no other name is met than this one, with this sort
abbrev pub MeetsOne : List LineVariable → List LineVariable → Name → ℕ → Type 0
MeetsOne old new name sort = (new ≡ old) ⊎ ((k : LineVariable) × IsKnownAs name sort k × (new ≡ old ++ k ∷ []))
