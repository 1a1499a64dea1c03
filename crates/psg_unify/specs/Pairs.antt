-- Ground instances of two rows that agree on pairs of columns.
use Rattle.std.specs.Prelude.{ℕ, ◌≡◌, ◌++◌, List, [], ◌∷◌, Some, slice_get}
use Rattle.psg_terms.specs.Terms.{Term}
use Rattle.psg_terms.specs.Signature.{Signature, HaveSorts}
use Rattle.psg_terms.specs.Instances.{IsGroundInstance}

-- columns of the two rows, by number
abbrev pub Pair : Type 0
Pair = ℕ × ℕ

-- the left row's column is the right row's, for each pair
abbrev pub AgreeOn : List Pair → List Term → List Term → Type 0
AgreeOn [] left right = Unit {0}
AgreeOn (p ∷ pairs) left right = (slice_get left p.0 ≡ slice_get right p.1) × AgreeOn pairs left right

-- A ground instance of each row, one after the other, that agree on the pairs. Each row has a substitution of its own,
-- so their variables are apart.
abbrev pub IsAgreeing : Signature → List Term → List Term → List Pair → List Term → Type 0
IsAgreeing sig left right pairs row =
    (l : List Term) × (r : List Term) × IsGroundInstance sig left l × IsGroundInstance sig right r × AgreeOn pairs l r
    × (row ≡ l ++ r)

-- columns that are there, of equal sort
abbrev pub AreOfEqualSort : List ℕ → List ℕ → List Pair → Type 0
AreOfEqualSort left right [] = Unit {0}
AreOfEqualSort left right (p ∷ pairs) = ((s : ℕ) × (slice_get left p.0 ≡ Some s) × (slice_get right p.1 ≡ Some s))
    × AreOfEqualSort left right pairs

-- both rows have sorts, and the columns of each pair have the same one
pub record AreJoinable (sig : Signature) (left right : List Term) (pairs : List Pair) : Type 0 where
  pub left_sorts : List ℕ
  pub right_sorts : List ℕ
  pub left_sorted : HaveSorts sig left left_sorts
  pub right_sorted : HaveSorts sig right right_sorts
  pub equal : AreOfEqualSort left_sorts right_sorts pairs
