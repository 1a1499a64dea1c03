-- What is possible for the rows of a list, for their columns, and for the pairs of rows of two lists.
use Rattle.std.specs.Prelude.{ℕ, ◌≡◌, ◌<◌, ◌++◌, List, All, map, length}
use Rattle.psg_terms.specs.Terms.{Term}
use Rattle.psg_terms.specs.Signature.{Signature, HaveSorts}
use Rattle.psg_terms.specs.Instances.{IsGroundInstance}
use Rattle.psg_terms.specs.Relations.{IsIn, IsRelation}
use Rattle.psg_terms.specs.Weight.{PassesLimit}
use Rattle.psg_unify.specs.Pairs.{Pair as Columns, AgreeOn}
pub use Rattle.psg_unify.specs.Columns.{pick, picked}
use Rattle.psg_relation.specs.declared.relation.RelFault.{RelFault}
use Rattle.psg_relation.specs.declared.relation.RelFault.TheVariants.{Wide, Memory}

-- rows of the same sorts
abbrev pub AllHaveSorts : Signature → List (List Term) → List ℕ → Type 0
AllHaveSorts sig rows sorts = (row : List Term) → IsIn row rows → HaveSorts sig row sorts

-- the ground instances of a row of the list
abbrev pub IsOfRow : Signature → List (List Term) → List Term → List Term → Type 0
IsOfRow sig rows row columns = IsIn row rows × IsGroundInstance sig row columns

-- these columns of the ground instances of a row of the list
abbrev pub IsProjected : Signature → List (List Term) → List ℕ → List Term → List Term → Type 0
IsProjected sig rows keep row columns = IsIn row rows
    × ((full : List Term) × IsGroundInstance sig row full × (columns ≡ picked full keep))

-- two rows without variables agree on the pairs, and the row has these columns of them
abbrev pub Agrees : List Columns → List ℕ → List Term → List Term → List Term → Type 0
Agrees pairs keep p q columns = AgreeOn pairs p q × (columns ≡ picked (p ++ q) keep)

-- what is known where the answer is that the limit is passed
abbrev pub MayBeWide : Type 0 → RelFault → Type 0
MayBeWide P Wide = P
MayBeWide P Memory = Unit {0}

-- the columns are there in each row
abbrev pub AllWithin : List (List Term) → List ℕ → Type 0
AllWithin rows keep = (row : List Term) → IsIn row rows → All (λ k. k < length row) keep

-- the columns of these numbers of each row; numbers that a row does not have are left out
abbrev pub all_picked : List (List Term) → List ℕ → List (List Term)
all_picked rows keep = map (λ row. picked row keep) rows

-- the family has a relation that passes the limit
abbrev pub HasWide : Signature → List ℕ → {C : Type 0} → (C → List Term → Type 0) → Type 0
HasWide sig sorts possible = (rows : List (List Term)) × IsRelation sig sorts possible rows × PassesLimit rows

-- a row's own columns agree on the pairs
abbrev pub IsSelected : Signature → List (List Term) → List Columns → List ℕ → List Term → List Term → Type 0
IsSelected sig rows pairs keep row columns =
    IsIn row rows × ((full : List Term) × IsGroundInstance sig row full × AgreeOn pairs full full
    × (columns ≡ picked full keep))
