-- The most general rows of families of sets of rows without variables.
use Rattle.std.specs.Prelude.{ℕ, ◌≡◌, ◌↔◌, List, [], ◌∷◌}
use Rattle.psg_terms.specs.Terms.{Term}
use Rattle.psg_terms.specs.Signature.{Signature, HaveSorts}
use Rattle.psg_terms.specs.Instances.{IsInstance, IsGroundInstance}
use Rattle.psg_terms.specs.Canonical.{IsCanonical}
use Rattle.psg_terms.specs.Text.{IsInTextOrder}

-- a member of a list
pub data IsIn {X : Type 0} (x : X) : List X → Type 0 where
  first : {xs : List X} → IsIn x (x ∷ xs)
  later : {y : X} {xs : List X} → IsIn x xs → IsIn x (y ∷ xs)

-- no member occurs twice
abbrev pub IsOnce : {X : Type 0} → List X → Type 0
IsOnce [] = Unit {0}
IsOnce (x ∷ xs) = (IsIn x xs → ⊥) × IsOnce xs

-- Possible c row: the row without variables is possible for the choice c. The columns have these sorts.
module _ (sig : Signature) (sorts : List ℕ) {C : Type 0} (Possible : C → List Term → Type 0) where
  -- a row whose instances without variables are exactly what is possible for one choice
  pub record IsShape (row : List Term) : Type 0 where
    pub canonical : IsCanonical sig row
    pub sorted : HaveSorts sig row sorts
    pub choice : C
    pub some : (columns : List Term) × Possible choice columns
    pub exact : (columns : List Term) → IsGroundInstance sig row columns ↔ Possible choice columns

  -- a shape that is no proper instance of another one
  pub record IsMaximal (row : List Term) : Type 0 where
    pub shape : IsShape row
    pub greatest : (other : List Term) → IsShape other → IsInstance row other → row ≡ other

  -- Each row is a shape, what is possible for a choice is among the instances of one row, no row is an instance of
  -- another, no row occurs twice, and the rows are in byte order of their texts. So the rows are the maximal shapes,
  -- each once.
  pub record IsRelation (rows : List (List Term)) : Type 0 where
    pub shapes : (row : List Term) → IsIn row rows → IsShape row
    pub covers : (choice : C) (columns : List Term) → Possible choice columns
        → (row : List Term) × IsIn row rows
        × ((other : List Term) → Possible choice other → IsGroundInstance sig row other)
    pub apart : (row other : List Term) → IsIn row rows → IsIn other rows → IsInstance row other → row ≡ other
    pub once : IsOnce rows
    pub order : IsInTextOrder sig rows

-- what two rows without variables have in common: Glue p q x says that x is made of p and q
module _ (sig : Signature) (Glue : List Term → List Term → List Term → Type 0) where
  -- two rows of two lists
  pub record Pair (left right : List (List Term)) : Type 0 where
    pub one : List Term
    pub from_left : IsIn one left
    pub two : List Term
    pub from_right : IsIn two right

  -- the row is made of instances of the two rows
  pub record IsGlued (left right : List (List Term)) (pair : Pair left right) (columns : List Term) : Type 0 where
    pub p : List Term
    pub p_is : IsGroundInstance sig pair.one p
    pub q : List Term
    pub q_is : IsGroundInstance sig pair.two q
    pub glue : Glue p q columns
