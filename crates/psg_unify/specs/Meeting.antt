-- What a step of a solver of equations over cells keeps.
use Rattle.std.specs.Prelude.{◌≡◌, ◌≢◌, ◌++◌, ◌∷◌, List, []}
use Rattle.psg_terms.specs.Signature.{Signature}
use Rattle.psg_pool.specs.declared.cells.CellId.{CellId}
use Rattle.psg_pool.specs.declared.cells.Binding.{Binding}
use Rattle.psg_pool.specs.Bindings.{Kept}
use Rattle.psg_unify.specs.declared.classes.Classes.{Classes}
use Rattle.psg_unify.specs.Reading.{Reading}
use Rattle.psg_unify.specs.Valuations.{Equation, Equals, IsValuation, Solves}
use Rattle.psg_unify.specs.Joined.{IsSolving}
use Rattle.psg_unify.specs.Climbing.{IsEnd, IsGoing}

-- the arguments of two cells, place by place
abbrev pub pairs_of : List CellId → List CellId → List Equation
pairs_of [] ys = []
pairs_of (x ∷ xs) [] = []
pairs_of (x ∷ xs) (y ∷ ys) = (x, y) ∷ pairs_of xs ys

-- the pool has more bindings at the end, and the same cells
pub record IsMoreBound (old new : Kept) : Type 0 where
  pub bindings : List Binding
  pub bindings_are : new.bindings ≡ old.bindings ++ bindings
  pub cells_are : new.cells ≡ old.cells

-- where equations were being solved, they still are
abbrev pub StaysSolving : (old new : Kept) → (before after : Classes) → (left more : List Equation) → Type 0
StaysSolving old new before after left more =
    (sig : Signature) (bs : List Binding) (asked apart : List Equation)
    → IsSolving sig before.base bs asked old before apart left
    → (others : List Equation) × IsSolving sig before.base bs asked new after others more

-- no valuation makes the equations equal that were asked for
abbrev pub HasNoValuation : Kept → Classes → List Equation → Type 0
HasNoValuation kept classes left =
    (sig : Signature) (bs : List Binding) (asked apart : List Equation)
    → IsSolving sig classes.base bs asked kept classes apart left
    → (v : Reading) → IsValuation kept.cells v → Solves bs v → Equals v asked → ⊥

-- the equations are being solved
pub record CanSolve (kept : Kept) (classes : Classes) (left : List Equation) : Type 0 where
  pub sig : Signature
  pub bs : List Binding
  pub asked : List Equation
  pub apart : List Equation
  pub solving : IsSolving sig classes.base bs asked kept classes apart left

-- Equations that hold already were dropped, and the next one is of two different cells from which nothing leads on.
pub record IsNextApart (kept : Kept) (classes : Classes) (before : List Equation) (p : Equation)
    (after : List Equation) : Type 0 where
  pub stays : StaysSolving kept kept classes classes before (p ∷ after)
  pub can : CanSolve kept classes (p ∷ after)
  pub first_end : IsEnd kept classes p.0
  pub second_end : IsEnd kept classes p.1
  pub other : p.0.0 ≢ p.1.0
  pub going : IsGoing kept classes (p ∷ after)
