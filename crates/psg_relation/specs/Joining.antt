-- Rows that two rows make where they agree on pairs of columns.
use Rattle.std.specs.Prelude.{ℕ, ◌≡◌, ◌+◌, ◌<◌, ◌++◌, ◌⊎◌, All, List, [], ◌∷◌, length, Option, MatchOption}
use Rattle.psg_terms.specs.Terms.{Term}
use Rattle.psg_terms.specs.Signature.{Signature, HaveSorts}
use Rattle.psg_terms.specs.Instances.{IsGroundInstance}
use Rattle.psg_terms.specs.Relations.{IsIn}
use Rattle.psg_unify.specs.Pairs.{Pair as Columns, AreOfEqualSort, AreJoinable}
pub use Rattle.psg_unify.specs.Columns.{Joins}
use Rattle.psg_relation.specs.Choices.{AllHaveSorts, picked}
use Rattle.psg_relation.specs.Sealed.{IsReady}

-- the row has exactly these
pub record IsJoinOf (sig : Signature) (pairs : List Columns) (keep : List ℕ) (left right row : List Term) : Type 0 where
  pub ready : IsReady sig row
  pub to : (x : List Term) → IsGroundInstance sig row x → Joins sig pairs keep left right x
  pub back : (x : List Term) → Joins sig pairs keep left right x → IsGroundInstance sig row x
  pub sorted : (ls rs : List ℕ) → HaveSorts sig left ls → HaveSorts sig right rs
      → HaveSorts sig row (picked (ls ++ rs) keep)

-- the row is the kept columns of the join of two rows, or there is none
abbrev pub IsJoint : Signature → List Columns → List ℕ → List Term → List Term → Option (List Term) → Type 0
IsJoint sig pairs keep left right o = MatchOption o ((x : List Term) → Joins sig pairs keep left right x → ⊥)
    (λ row. IsJoinOf sig pairs keep left right row)

-- a left and a right row
abbrev pub Two : Type 0
Two = List Term × List Term

-- the pairs of one row with each of the others, in order
abbrev pub with_each : List Term → List (List Term) → List Two
with_each one [] = []
with_each one (other ∷ rest) = (one, other) ∷ with_each one rest

-- the pairs of each left row with each right one, in order
abbrev pub all_pairs : List (List Term) → List (List Term) → List Two
all_pairs [] right = []
all_pairs (one ∷ left) right = with_each one right ++ all_pairs left right

-- the made rows are the joins of these pairs of rows
pub record AreJoined (sig : Signature) (pairs : List Columns) (keep : List ℕ) (done : List Two)
    (made : List (List Term)) : Type 0 where
  pub from : (m : List Term) → IsIn m made → (p : Two) × IsIn p done × IsJoinOf sig pairs keep p.0 p.1 m
  pub to : (p : Two) → IsIn p done → (x : List Term) → Joins sig pairs keep p.0 p.1 x
      → (m : List Term) × IsIn m made × IsJoinOf sig pairs keep p.0 p.1 m

-- The rows of each side have sorts, and for every two rows the pairs and the kept columns are there, the pairs of equal
-- sort.
pub record MayJoin (sig : Signature) (left right : List (List Term)) (pairs : List Columns)
    (keep : List ℕ) : Type 0 where
  pub left_sorts : List ℕ
  pub lefts : AllHaveSorts sig left left_sorts
  pub right_sorts : List ℕ
  pub rights : AllHaveSorts sig right right_sorts
  pub equal : (one other : List Term) → IsIn one left → IsIn other right → AreOfEqualSort left_sorts right_sorts pairs
  pub within : (one other : List Term) → IsIn one left → IsIn other right
      → All (λ k. k < length one + length other) keep

-- the rows, and after them the join of two rows, if there is one
abbrev pub IsMore : Signature → List Columns → List ℕ → List Term → List Term → List (List Term) → List (List Term)
    → Type 0
IsMore sig pairs keep left right made more = (((x : List Term) → Joins sig pairs keep left right x → ⊥) × (more ≡ made))
    ⊎ ((row : List Term) × IsJoinOf sig pairs keep left right row × (more ≡ made ++ row ∷ []))

-- two rows can be joined on the pairs, and have the kept columns
pub record MayMeet (sig : Signature) (left right : List Term) (pairs : List Columns) (keep : List ℕ) : Type 0 where
  pub joinable : AreJoinable sig left right pairs
  pub within : All (λ k. k < length left + length right) keep

-- The second list has the joins of the first one's pairs of rows, and of the row with each of the others.
abbrev pub IsCrossed : Signature → List Columns → List ℕ → List Term → List (List Term) → List (List Term)
    → List (List Term) → Type 0
IsCrossed sig pairs keep one right made more = (done : List Two) → AreJoined sig pairs keep done made
    → AreJoined sig pairs keep (done ++ with_each one right) more
