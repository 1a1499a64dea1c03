-- Classes of constructor cells that are equal, and what a solver of equations knows.
use Rattle.std.specs.Prelude.{ℕ, ◌≡◌, ◌≤◌, ◌+◌, ◌++◌, ◌⊎◌, List, slice_get, All, Some}
use Rattle.psg_terms.specs.Signature.{Signature}
use Rattle.psg_pool.specs.declared.cells.CellId.{CellId}
use Rattle.psg_pool.specs.declared.cells.Binding.{Binding}
use Rattle.psg_pool.specs.Cells.{Put, IsAmong}
use Rattle.psg_pool.specs.Bindings.{Kept, target_of}
use Rattle.psg_unify.specs.declared.classes.Classes.{Classes}
use Rattle.psg_unify.specs.Fitting.{IsPutOf, IsOfOneSort, sort_at}
use Rattle.psg_unify.specs.Valuations.{Equation, AreLinked, IsState}

-- the cell was joined to the other one
abbrev pub IsNext : Classes → CellId → CellId → Type 0
IsNext c id to = (k : ℕ) × (id.0 ≡ c.base + k) × (slice_get c.next.items k ≡ Some (Some to))

-- a binding or a class leads on
abbrev pub IsStep : Kept → Classes → CellId → CellId → Type 0
IsStep kept c id to = (target_of kept.bindings id ≡ Some to) ⊎ IsNext c id to

-- cells are joined to cells that are there
abbrev pub AreThere : List Put → Classes → Type 0
AreThere cells c = (id to : CellId) → IsNext c id to → IsAmong cells to

abbrev pub AreThereBoth : List Put → Equation → Type 0
AreThereBoth cells p = IsAmong cells p.0 × IsAmong cells p.1

abbrev pub AreSortedAlike : Signature → List Put → Equation → Type 0
AreSortedAlike sig cells p = sort_at sig cells p.0 ≡ sort_at sig cells p.1

-- both cells of the binding are from this one on
abbrev pub IsFrom : ℕ → Binding → Type 0
IsFrom base b = (base ≤ b.bound.0) × (base ≤ b.target.0)

-- what is known while equations are solved
pub record IsSolving (sig : Signature) (base : ℕ) (old : List Binding) (asked : List Equation) (now : Kept)
    (classes : Classes) (apart left : List Equation) : Type 0 where
  pub state : IsState now.cells old asked now.bindings apart left
  pub linked : (id to : CellId) → IsNext classes id to → AreLinked apart id to
  pub there : AreThere now.cells classes
  pub apart_sorts : All (AreSortedAlike sig now.cells) apart
  pub puts : All (IsPutOf sig now.cells) now.cells
  pub sorts : All (IsOfOneSort sig now.cells) now.bindings
  pub left_sorts : All (AreSortedAlike sig now.cells) left
  pub left_there : All (AreThereBoth now.cells) left
  pub more : List Binding
  pub bindings_are : now.bindings ≡ old ++ more
  pub from : All (IsFrom base) more
