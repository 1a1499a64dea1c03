-- Lists of rows of which none is an instance of another one.
use Rattle.std.specs.Prelude.{◌≡◌, ◌⊎◌, ◌++◌, Bool, MatchBool, List, [], ◌∷◌}
use Rattle.psg_terms.specs.Terms.{Term}
use Rattle.psg_terms.specs.Instances.{IsGround, IsInstance}
use Rattle.psg_terms.specs.Relations.{IsIn, IsOnce}
use Rattle.psg_relation.specs.Heavy.{IsHeavy}
use Rattle.psg_relation.specs.Ordered.{KeepsOrder}

-- terms without variables
abbrev pub AreGround : List Term → Type 0
AreGround [] = Unit {0}
AreGround (t ∷ row) = IsGround t × AreGround row

-- some member has the row as an instance
abbrev pub IsCovered : List (List Term) → List Term → Type 0
IsCovered kept row = (k : List Term) × IsIn k kept × IsInstance row k

-- rows among these, of which none is an instance of another one, and of which each of these is an instance
pub record IsSifted (rows kept : List (List Term)) : Type 0 where
  pub among : (k : List Term) → IsIn k kept → IsIn k rows
  pub covers : (row : List Term) → IsIn row rows → IsCovered kept row
  pub apart : (k other : List Term) → IsIn k kept → IsIn other kept → IsInstance k other → k ≡ other
  pub once : IsOnce kept

-- no member is an instance of the row
abbrev pub HoldsNone : List Term → List (List Term) → Type 0
HoldsNone row kept = (k : List Term) → IsIn k kept → IsInstance k row → ⊥

-- the list without the instances of a row
pub record LeavesOut (row : List Term) (kept rest : List (List Term)) : Type 0 where
  pub among : (k : List Term) → IsIn k rest → IsIn k kept
  pub none : (k : List Term) → IsIn k rest → IsInstance k row → ⊥
  pub stays : (k : List Term) → IsIn k kept → IsInstance k row ⊎ IsIn k rest
  pub order : KeepsOrder kept rest
  pub once : IsOnce kept → IsOnce rest

-- one row more: the list, if the row is an instance of a member, and otherwise the row after those that are not its
-- instances
abbrev pub IsGrown : List (List Term) → List Term → List (List Term) → Type 0
IsGrown kept row more = (IsCovered kept row × (more ≡ kept))
    ⊎ ((IsCovered kept row → ⊥) × ((rest : List (List Term)) × LeavesOut row kept rest × (more ≡ rest ++ row ∷ [])))

-- whether each row has a member of which it is an instance
abbrev pub AreCovered : Bool → List (List Term) → List (List Term) → Type 0
AreCovered b kept rows = MatchBool b
    ((row : List Term) → IsIn row rows → IsCovered kept row)
    ((row : List Term) × IsIn row rows × (IsCovered kept row → ⊥))

-- the rows of the two lists are those of one list
pub record IsSplit (rows light heavy : List (List Term)) : Type 0 where
  pub lights : (row : List Term) → IsIn row light → IsIn row rows × (IsHeavy row → ⊥)
  pub heavies : (row : List Term) → IsIn row heavy → IsIn row rows × IsHeavy row
  pub all : (row : List Term) → IsIn row rows → IsIn row light ⊎ IsIn row heavy

-- Rows that are too large were left aside, and the kept ones are the most general ones of the others.
pub record IsHalved (rows kept heavy : List (List Term)) : Type 0 where
  pub light : List (List Term)
  pub split : IsSplit rows light heavy
  pub sifted : IsSifted light kept

-- the same members
pub record HasSameRows (rows others : List (List Term)) : Type 0 where
  pub there : (row : List Term) → IsIn row rows → IsIn row others
  pub back : (row : List Term) → IsIn row others → IsIn row rows

-- the most general rows, none of which is too large
pub record IsLightly (rows kept : List (List Term)) : Type 0 where
  pub sifted : IsSifted rows kept
  pub lights : (k : List Term) → IsIn k kept → IsHeavy k → ⊥

-- a row that is too large is an instance of none of the most general ones of the others
pub record LosesHeavy (rows : List (List Term)) : Type 0 where
  pub light : List (List Term)
  pub kept : List (List Term)
  pub sifted : IsSifted light kept
  pub lights : (row : List Term) → IsIn row light → IsIn row rows
  pub all : (row : List Term) → IsIn row rows → IsIn row light ⊎ IsHeavy row
  pub row : List Term
  pub there : IsIn row rows
  pub uncovered : IsCovered kept row → ⊥

-- the first row is too large
abbrev pub StartsHeavy : List (List Term) → Type 0
StartsHeavy [] = ⊥
StartsHeavy (row ∷ rows) = IsHeavy row
