-- Tables of the spaces in which phyla declare.
use Rattle.std.specs.Prelude.{ℕ, zero, suc, ◌≡◌, ◌≢◌, ◌↔◌, ◌⊎◌, ◌<◌, Bool, true, false, List, [], ◌∷◌, length, Option}
use Rattle.std.specs.Prelude.{Some, None, sum_by, All, Contains, Vec}
use Rattle.std.specs.declared.alloc.Global.{Global}
use Rattle.std.specs.List.Sorted.{IsStrictlyIncreasing}
use Rattle.psg_grammar.specs.declared.types.Kind.{Kind}
use Rattle.psg_grammar.specs.declared.types.Kind.TheVariants as kinds
use Rattle.psg_grammar.specs.declared.types.Item.{Item}
use Rattle.psg_grammar.specs.declared.types.Item.TheVariants as items
use Rattle.psg_grammar.specs.declared.types.Operator.{Operator}
use Rattle.psg_grammar.specs.declared.types.Definition.{Definition}
use Rattle.psg_grammar.specs.Declaring.{Declares}
use Rattle.psg_grammar.specs.Kinds.{base_phylum_of}

-- the spaces in which the phylum declares, ascending
pub record AreSpacesOf (def : Definition) (phylum : ℕ) (spaces : List ℕ) : Type 0 where
  pub increasing : IsStrictlyIncreasing spaces
  pub exact : (s : ℕ) → Contains spaces s ↔ Declares def s (kinds.Phylum phylum)

-- ---- tables that are still filled

-- the spaces found for each phylum
abbrev pub Table : Type 0
Table = List (Vec ℕ Global)

-- the spaces of a phylum, and none of a phylum that the table does not have
abbrev pub spaces_at : Table → ℕ → List ℕ
spaces_at [] p = []
spaces_at (v ∷ rest) zero = v.items
spaces_at (v ∷ rest) (suc p) = spaces_at rest p

-- how many spaces all phyla have in the table
abbrev pub spaces_count : Table → ℕ
spaces_count table = sum_by (λ (v : Vec ℕ Global). length v.items) table

-- the spaces found for a kind; for a list those of its elements
abbrev pub phylum_spaces : Table → Option ℕ → List ℕ
phylum_spaces table None = []
phylum_spaces table (Some p) = spaces_at table p

-- the spaces of a kind: those of a phylum, or of a list's elements
abbrev pub kind_spaces : Definition → Table → Kind → List ℕ
kind_spaces def table kind = phylum_spaces table (base_phylum_of def kind)

-- the item declares in the space, or is for a kind for which it was found
abbrev pub HasSpace : Definition → Table → Item → ℕ → Type 0
HasSpace def table (items.Declares s) space = space ≡ s
HasSpace def table (items.Slot k) space = Contains (kind_spaces def table k) space
HasSpace def table _ space = ⊥

-- what was found is right
pub record IsTable (def : Definition) (table : Table) : Type 0 where
  pub one_each : length table ≡ length def.phyla
  pub increasing : (p : ℕ) → IsStrictlyIncreasing (spaces_at table p)
  pub sound : (p s : ℕ) → Contains (spaces_at table p) s → Declares def s (kinds.Phylum p)

-- nothing is lost, and the count says whether there is more
pub record Grows (old new : Table) (changed : Bool) : Type 0 where
  pub keeps : (p s : ℕ) → Contains (spaces_at old p) s → Contains (spaces_at new p) s
  pub same : changed ≡ false → new ≡ old
  pub more : changed ≡ true → spaces_count old < spaces_count new

-- these spaces and no others are added to those of the phylum
pub record Adds (old : Table) (phylum : ℕ) (Added : ℕ → Type 0) (new : Table) (changed : Bool) : Type 0 where
  pub one_each : length new ≡ length old
  pub increasing : (p : ℕ) → IsStrictlyIncreasing (spaces_at new p)
  pub only : (p s : ℕ) → Contains (spaces_at new p) s → Contains (spaces_at old p) s ⊎ ((p ≡ phylum) × Added s)
  pub all : (s : ℕ) → Added s → Contains (spaces_at new phylum) s
  pub others : (p : ℕ) → p ≢ phylum → spaces_at new p ≡ spaces_at old p
  pub grows : Grows old new changed

-- the spaces of the item are among those of the phylum
abbrev pub IsClosedFor : Definition → Table → ℕ → Item → Type 0
IsClosedFor def table phylum item = (s : ℕ) → HasSpace def table item s → Contains (spaces_at table phylum) s

-- what the items of an operator have reaches the region around it, unless it is a scope
abbrev pub IsClosedOperator : Definition → Table → Operator → Type 0
IsClosedOperator def table op = op.scope ≡ false → All (IsClosedFor def table op.phylum) op.items

-- what a pass over the items of an operator leaves
pub record PassesOperator (def : Definition) (op : Operator) (old new : Table) (changed : Bool) : Type 0 where
  pub right : IsTable def new
  pub grows : Grows old new changed
  pub closed : changed ≡ false → IsClosedOperator def new op

-- what a pass over all operators leaves
pub record PassesAll (def : Definition) (old new : Table) (changed : Bool) : Type 0 where
  pub right : IsTable def new
  pub grows : Grows old new changed
  pub closed : changed ≡ false → All (IsClosedOperator def new) def.operators
