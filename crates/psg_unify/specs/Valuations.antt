-- Terms for all cells of a pool, under which constructor cells are made of their arguments.
use Rattle.std.specs.Prelude.{ℕ, suc, ◌≡◌, ◌<◌, ◌-◌, ◌⊎◌, List, map, slice_get, All, Some}
use Rattle.psg_terms.specs.Terms.{symbol, applied}
use Rattle.psg_terms.specs.Sizes.{size}
use Rattle.psg_terms.specs.Instances.{Substitution}
use Rattle.psg_terms.specs.Relations.{IsIn}
use Rattle.psg_pool.specs.declared.cells.CellId.{CellId}
use Rattle.psg_pool.specs.declared.cells.Binding.{Binding}
use Rattle.psg_pool.specs.Cells.{Put, constructor}
use Rattle.psg_pool.specs.Bindings.{target_of}
use Rattle.psg_unify.specs.Reading.{Reading}

-- each constructor cell has its constructor over what its arguments have
abbrev pub IsValuation : List Put → Reading → Type 0
IsValuation cells v = (id : CellId) (c : ℕ) (args : List CellId) → slice_get cells id.0 ≡ Some (constructor c args)
    → v id ≡ applied (symbol c) (map v args)

-- bound cells have what their targets have
abbrev pub Solves : List Binding → Reading → Type 0
Solves bindings v = (id to : CellId) → target_of bindings id ≡ Some to → v id ≡ v to

-- two cells
abbrev pub Equation : Type 0
Equation = CellId × CellId

abbrev pub Equals : Reading → List Equation → Type 0
Equals v equations = All (λ (p : Equation). v p.0 ≡ v p.1) equations

-- where one side is smaller than this, both are equal
abbrev pub HoldsBelow : ℕ → Reading → Equation → Type 0
HoldsBelow n v p = (size (v p.0) < n) ⊎ (size (v p.1) < n) → v p.0 ≡ v p.1

abbrev pub EqualsBelow : ℕ → Reading → List Equation → Type 0
EqualsBelow n v equations = All (HoldsBelow n v) equations

-- equations of the list lead from one cell to the other
pub data AreLinked (apart : List Equation) : CellId → CellId → Type 0 where
  itself : (a : CellId) → AreLinked apart a a
  onward : (a x b : CellId) → IsIn (a, x) apart → AreLinked apart x b → AreLinked apart a b
  back : (a x b : CellId) → IsIn (x, a) apart → AreLinked apart x b → AreLinked apart a b

-- bindings and links lead from one cell to the other
pub data Follows (bindings : List Binding) (apart : List Equation) : CellId → CellId → Type 0 where
  stays : (a : CellId) → Follows bindings apart a a
  over_binding : (a x b : CellId) → target_of bindings a ≡ Some x → Follows bindings apart x b
      → Follows bindings apart a b
  over_link : (a x b : CellId) → AreLinked apart a x → Follows bindings apart x b → Follows bindings apart a b

-- What was taken apart follows from what is left: where both hold below a size, the former holds one size further.
abbrev pub IsGuarded : Reading → List Equation → List Equation → Type 0
IsGuarded v apart left = (n : ℕ) → EqualsBelow n v apart → EqualsBelow n v left → EqualsBelow (suc n) v apart

-- A state of the solver: of the valuations that solve the old bindings, those that solve it are those that solve the
-- equations that were asked for.
pub record IsState (cells : List Put) (old : List Binding) (asked : List Equation) (bindings : List Binding)
    (apart left : List Equation) : Type 0 where
  pub to : (v : Reading) → IsValuation cells v → Solves old v → Equals v asked
      → Solves bindings v × Equals v apart × Equals v left
  pub back : (v : Reading) → IsValuation cells v → Solves bindings v → Equals v apart → Equals v left → Equals v asked
  pub guarded : (v : Reading) → IsValuation cells v → Solves bindings v → IsGuarded v apart left

-- the substitution that a valuation is
abbrev pub by_cells : Reading → Substitution
by_cells v s n = v (record { 0 = n - 1 })
