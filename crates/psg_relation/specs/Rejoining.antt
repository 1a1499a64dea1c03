-- Joins of rows that are solved once more, to see whether they are instances of rows.
use Rattle.std.specs.Prelude.{ℕ, ◌<◌, ◌+◌, ◌++◌, ◌⊎◌, All, Bool, MatchBool, List, length}
use Rattle.psg_terms.specs.Terms.{Term}
use Rattle.psg_terms.specs.Signature.{Signature, HaveSorts}
use Rattle.psg_terms.specs.Sound.{IsSound}
use Rattle.psg_terms.specs.Instances.{IsGroundInstance}
use Rattle.psg_terms.specs.Relations.{IsIn}
use Rattle.psg_unify.specs.Pairs.{Pair as Columns, AreOfEqualSort, AreJoinable}
use Rattle.psg_relation.specs.declared.rejoining.Partners.{Partners}
use Rattle.psg_relation.specs.declared.rejoining.Partners.TheVariants.{All as EachOther, Itself}
use Rattle.psg_relation.specs.Choices.{AllHaveSorts, picked}
use Rattle.psg_relation.specs.Joining.{Joins, Two, AreJoined, all_pairs}
use Rattle.psg_relation.specs.Selecting.{twins}
use Rattle.psg_relation.specs.Sifted.{IsSplit, IsSifted}

-- the pairs of rows that are joined
abbrev pub partners : Partners → List (List Term) → List (List Term) → List Two
partners EachOther left right = all_pairs left right
partners Itself left right = twins left

-- one of the rows has all ground instances of the join of two rows
abbrev pub IsHeld : Signature → List Columns → List ℕ → List (List Term) → Two → Type 0
IsHeld sig pairs keep kept p = (k : List Term) × IsIn k kept
    × ((x : List Term) → Joins sig pairs keep p.0 p.1 x → IsGroundInstance sig k x)

-- there are no ground instances of the join
abbrev pub IsEmptyJoin : Signature → List Columns → List ℕ → Two → Type 0
IsEmptyJoin sig pairs keep p = (x : List Term) → Joins sig pairs keep p.0 p.1 x → ⊥

-- there is one, and none of the rows has all
abbrev pub IsUnheld : Signature → List Columns → List ℕ → List (List Term) → Two → Type 0
IsUnheld sig pairs keep kept p = ((x : List Term) × Joins sig pairs keep p.0 p.1 x)
    × (IsHeld sig pairs keep kept p → ⊥)

-- whether each join of these pairs is an instance of one of the rows
abbrev pub AreHeld : Bool → Signature → List Columns → List ℕ → List (List Term) → List Two → Type 0
AreHeld b sig pairs keep kept done = MatchBool b
    ((p : Two) → IsIn p done → IsEmptyJoin sig pairs keep p ⊎ IsHeld sig pairs keep kept p)
    ((p : Two) × IsIn p done × IsUnheld sig pairs keep kept p)

-- two rows can be joined, and their join has the sorts of the rows that it is compared with
pub record MayCompare (sig : Signature) (pairs : List Columns) (keep : List ℕ) (kept : List (List Term))
    (p : Two) : Type 0 where
  pub joinable : AreJoinable sig p.0 p.1 pairs
  pub within : All (λ k. k < length p.0 + length p.1) keep
  pub sorted : AllHaveSorts sig kept (picked (joinable.left_sorts ++ joinable.right_sorts) keep)

-- Left rows have the same sorts, and so have right ones, and the rows of each pair can be joined.
pub record MayPair (sig : Signature) (pairs : List Columns) (keep : List ℕ) (done : List Two) : Type 0 where
  pub left_sorts : List ℕ
  pub right_sorts : List ℕ
  pub lefts : (p : Two) → IsIn p done → HaveSorts sig p.0 left_sorts
  pub rights : (p : Two) → IsIn p done → HaveSorts sig p.1 right_sorts
  pub equal : (p : Two) → IsIn p done → AreOfEqualSort left_sorts right_sorts pairs
  pub within : (p : Two) → IsIn p done → All (λ k. k < length p.0 + length p.1) keep

-- Rows are the joins of these pairs, and the kept ones are the most general ones of those that are not too large.
pub record AreSiftedJoins (sig : Signature) (pairs : List Columns) (keep : List ℕ) (done : List Two)
    (kept heavy : List (List Term)) : Type 0 where
  pub sound : IsSound sig
  pub made : List (List Term)
  pub light : List (List Term)
  pub joined : AreJoined sig pairs keep done made
  pub split : IsSplit made light heavy
  pub sifted : IsSifted light kept
  pub compare : (p : Two) → IsIn p done → MayCompare sig pairs keep kept p
