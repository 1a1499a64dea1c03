-- Rows with those columns alone that have to be solved, and how their join becomes that of the whole rows.
use Rattle.std.specs.Prelude.{◌≡◌, ◌<◌, ◌+◌, ◌++◌, ◌∷◌, ◌⊎◌, ℕ, suc, true, List, []}
use Rattle.std.specs.Prelude.{Some, All, map, length, slice_get}
use Rattle.psg_terms.specs.Terms.{Term}
use Rattle.psg_terms.specs.Signature.{Signature, HaveSorts}
use Rattle.psg_terms.specs.Weight.{above_of}
use Rattle.psg_terms.specs.Instances.{Substitution, substitute}
use Rattle.psg_unify.specs.Pairs.{Pair as Columns, AgreeOn, AreJoinable}
use Rattle.psg_relation.specs.Settling.{IsSettled}
use Rattle.psg_relation.specs.declared.narrowing.Narrow.{Narrow}
use Rattle.psg_relation.specs.declared.narrowing.Side.{Side}
use Rattle.psg_relation.specs.declared.narrowing.Side.TheVariants.{Left, Right}
use Rattle.psg_relation.specs.declared.narrowing.Place.{Place}
use Rattle.psg_relation.specs.declared.narrowing.Place.TheVariants.{Solved, Given}

-- Two lists of columns of one length and of equal sorts. The rows agree on the pairs exactly where the one list is the
-- other.
pub record ArePaired (sig : Signature) (left right : List Term) (pairs : List Columns)
    (lefts rights : List Term) : Type 0 where
  pub sorts : List ℕ
  pub left_sorted : HaveSorts sig lefts sorts
  pub right_sorted : HaveSorts sig rights sorts
  pub to : (f g : Substitution) → AgreeOn pairs (map (substitute f) left) (map (substitute g) right)
      → map (substitute f) lefts ≡ map (substitute g) rights
  pub back : (f g : Substitution) → map (substitute f) lefts ≡ map (substitute g) rights
      → AgreeOn pairs (map (substitute f) left) (map (substitute g) right)

-- Two terms are put on the rows, or they are equal for all values and the rows stay as they are.
abbrev pub ArePushed : Term → Term → List Term → List Term → List Term → List Term → Type 0
ArePushed one other lefts rights more others = (IsSettled one other true × (more ≡ lefts) × (others ≡ rights))
    ⊎ ((more ≡ lefts ++ one ∷ []) × (others ≡ rights ++ other ∷ []))

-- Of the narrow rows, of which the left one is to have this number of columns, a column that is kept is this one.
abbrev pub IsMoved : List Term → List Term → List Term → List Term → ℕ → List ℕ → ℕ → ℕ → Type 0
IsMoved left right lefts rights width keep k place =
    ((t : Term) × (j : ℕ) × (slice_get left k ≡ Some t) × (slice_get lefts j ≡ Some t)
    × (slice_get keep place ≡ Some j))
    ⊎ ((t : Term) × (i : ℕ) × (j : ℕ) × (k ≡ length left + i) × (slice_get right i ≡ Some t)
    × (slice_get rights j ≡ Some t) × (slice_get keep place ≡ Some (width + j)))

-- a column without variables is shared; it is found after the solved ones
abbrev pub IsShared : List Term → List Term → ℕ → ℕ → ℕ → Type 0
IsShared left right count k place = ((t : Term) × (slice_get (left ++ right) k ≡ Some t) × (above_of t ≡ 0))
    × (place ≡ count + k)

-- the number of a narrow column, where the left row has this number of them and the right ones follow them
abbrev pub number_of : ℕ → Side → ℕ
number_of width (Left j) = j
number_of width (Right j) = width + j

abbrev pub numbers : ℕ → List Side → List ℕ
numbers width sides = map (number_of width) sides

-- the place where this number of solved columns are in front of the others
abbrev pub spot_of : ℕ → Place → ℕ
spot_of count (Solved q) = q
spot_of count (Given k) = count + k

abbrev pub spots : ℕ → List Place → List ℕ
spots count places = map (spot_of count) places

-- there is such a column
abbrev pub IsSide : List Term → List Term → Side → Type 0
IsSide lefts rights (Left j) = j < length lefts
IsSide lefts rights (Right j) = j < length rights

abbrev pub IsPlace : ℕ → ℕ → Place → Type 0
IsPlace count width (Solved q) = q < count
IsPlace count width (Given k) = k < width

-- Each kept column has its place: a solved one the next one, from the first number to the second, and a shared one
-- after the solved ones.
abbrev pub Plans : (ℕ → ℕ → Type 0) → (ℕ → ℕ → Type 0) → ℕ → ℕ → List ℕ → List ℕ → Type 0
Plans Moved Shared from to [] [] = from ≡ to
Plans Moved Shared from to [] (q ∷ places) = ⊥
Plans Moved Shared from to (k ∷ keep) [] = ⊥
Plans Moved Shared from to (k ∷ keep) (q ∷ places) = (Shared k q × Plans Moved Shared from to keep places)
    ⊎ ((q ≡ from) × Moved k from × Plans Moved Shared (suc from) to keep places)

-- The narrow rows are those of the pairs, and after them the kept columns that are to be solved, which are found by
-- their places.
pub record IsPlanned (left right lefts rights : List Term) (width count : ℕ) (keep : List ℕ) (n : Narrow) : Type 0 where
  pub more_left : List Term
  pub lefts_are : n.lefts.items ≡ lefts ++ more_left
  pub left_typed : (sig : Signature) (ls : List ℕ) → HaveSorts sig left ls → (ss : List ℕ) × HaveSorts sig more_left ss
  pub more_right : List Term
  pub rights_are : n.rights.items ≡ rights ++ more_right
  pub right_typed : (sig : Signature) (rs : List ℕ) → HaveSorts sig right rs
      → (ss : List ℕ) × HaveSorts sig more_right ss
  pub plan : Plans (IsMoved left right n.lefts.items n.rights.items width (numbers width n.keep.items))
      (IsShared left right count) 0 (length n.keep.items) keep (spots count n.places.items)
  pub sides : All (IsSide n.lefts.items n.rights.items) n.keep.items
  pub within : All (IsPlace (length n.keep.items) (length left + length right)) n.places.items

-- the narrow rows have those of the pairs in front, and say where each kept column is
pub record IsNarrow (left right : List Term) (pairs : List Columns) (keep : List ℕ) (n : Narrow) : Type 0 where
  pub lefts : List Term
  pub rights : List Term
  pub paired : (sig : Signature) → AreJoinable sig left right pairs → ArePaired sig left right pairs lefts rights
  pub front : n.front ≡ length lefts
  pub planned : IsPlanned left right lefts rights (length n.lefts.items) (length n.keep.items) keep n
