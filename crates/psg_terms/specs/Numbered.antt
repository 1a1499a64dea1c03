-- What the steps of reading written sorts keep.
use Rattle.std.specs.Prelude.{ℕ, ◌≡◌, ◌⊎◌, false, List, [], ◌∷◌, bytes_eq, slice_get, Some, MatchOption}
use Rattle.std.specs.HashMap.{HashMap, get_by}
use Rattle.std.specs.Borrow.{Bor}
use Rattle.std.specs.declared.hash.FoldHasher.{FoldHasher}
use Rattle.std.specs.declared.hash.BuildHasherDefault.{BuildHasherDefault}
use Rattle.psg_terms.specs.Names.{Name, is_among}
use Rattle.psg_terms.specs.Declarations.{Numbered, IsFirstMissing, RepeatsSort, RepeatsConstructor, MissesSort}
use Rattle.psg_terms.specs.declared.declare.SortDecl.{SortDecl}
use Rattle.psg_terms.specs.declared.declare.Placed.{Placed}
use Rattle.psg_terms.specs.declared.declare.SigFault.{SigFault}
use Rattle.psg_terms.specs.declared.declare.SigFault.TheVariants.{Repeated, UnknownSort, NoGround, OneWide, Memory}

-- the constructors that are placed, each with the number of its sort
abbrev pub places : List Placed → List Numbered
places [] = []
places (p ∷ ps) = (p.sort.0, p.decl.now) ∷ places ps

-- a map from names to numbers
abbrev pub Numbers : Type 0
Numbers = HashMap (Bor (List ℕ)) ℕ (BuildHasherDefault FoldHasher)

-- the map has a place of each of the names, and no other name
abbrev pub Knows : List Name → Numbers → Type 0
Knows names m = (n : Name) → MatchOption (get_by (λ k. bytes_eq n k.now) m) (is_among names n ≡ false)
    (λ s. slice_get names s ≡ Some n)

-- the fault is a missing sort, or out of memory
abbrev pub MayMiss : List Name → List Name → SigFault → Type 0
MayMiss sorts names (Repeated n) = ⊥
MayMiss sorts names (UnknownSort n) = IsFirstMissing sorts names n
MayMiss sorts names (NoGround s) = ⊥
MayMiss sorts names (OneWide s) = ⊥
MayMiss sorts names Memory = Unit {0}

-- the fault is a name that occurs twice, or out of memory
abbrev pub MayRepeat : List SortDecl → SigFault → Type 0
MayRepeat written (Repeated n) = RepeatsSort written n ⊎ RepeatsConstructor written n
MayRepeat written (UnknownSort n) = ⊥
MayRepeat written (NoGround s) = ⊥
MayRepeat written (OneWide s) = ⊥
MayRepeat written Memory = Unit {0}

-- the fault is one of names, or out of memory
abbrev pub MayMisspell : List SortDecl → SigFault → Type 0
MayMisspell written (Repeated n) = RepeatsSort written n ⊎ RepeatsConstructor written n
MayMisspell written (UnknownSort n) = MissesSort written n
MayMisspell written (NoGround s) = ⊥
MayMisspell written (OneWide s) = ⊥
MayMisspell written Memory = Unit {0}
