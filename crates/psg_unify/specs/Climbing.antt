-- How high cells are: a binding or a class leads to a higher cell.
use Rattle.std.specs.Prelude.{ℕ, ◌≡◌, ◌<◌, ◌≤◌, ◌+◌, ◌-◌, Bool, true, false, List, slice_get, get_or, length}
use Rattle.std.specs.Prelude.{Option, Some, None, All}
use Rattle.psg_pool.specs.declared.cells.CellId.{CellId}
use Rattle.psg_pool.specs.Cells.{IsAmong, arguments_of}
use Rattle.psg_pool.specs.Bindings.{Kept, target_of}
use Rattle.psg_unify.specs.declared.classes.Classes.{Classes}
use Rattle.psg_unify.specs.Valuations.{Equation}
use Rattle.psg_unify.specs.Joined.{IsNext, IsStep}
use Rattle.psg_unify.specs.Counting.{count_below}

-- neither a binding nor a class leads on
abbrev pub is_none_of : Option CellId → Option (Option CellId) → Bool
is_none_of (Some to) next = false
is_none_of None None = true
is_none_of None (Some None) = true
is_none_of None (Some (Some to)) = false

-- nothing leads on from the cell at this place, counted from the first cell of the classes
abbrev pub is_end : Kept → Classes → ℕ → Bool
is_end kept c k = is_none_of (target_of kept.bindings (record { 0 = c.base + k })) (slice_get c.next.items k)

-- how many such cells there are
abbrev pub ends : Kept → Classes → ℕ
ends kept c = count_below (length c.next.items) (is_end kept c)

-- the height that was noted of the cell
abbrev pub height_at : Classes → CellId → ℕ
height_at c id = get_or c.heights.items (id.0 - c.base) 0

-- Bindings and classes lead from each cell of the classes to a higher one, and no cell is higher than the number of
-- those that lead on.
pub record IsClimbing (kept : Kept) (c : Classes) : Type 0 where
  pub count : c.base + length c.next.items ≡ length kept.cells
  pub heights : length c.heights.items ≡ length c.next.items
  pub climbs : (id to : CellId) → c.base ≤ id.0 → IsStep kept c id to
      → (c.base ≤ to.0) × (height_at c id < height_at c to)
  pub bounded : (id : CellId) → height_at c id + ends kept c ≤ length c.next.items

-- nothing leads on from the cell, which is one of the classes' cells
pub record IsEnd (kept : Kept) (c : Classes) (id : CellId) : Type 0 where
  pub from : c.base ≤ id.0
  pub there : IsAmong kept.cells id
  pub unbound : target_of kept.bindings id ≡ None
  pub last : (to : CellId) → IsNext c id to → ⊥

abbrev pub AreFrom : ℕ → Equation → Type 0
AreFrom base p = (base ≤ p.0.0) × (base ≤ p.1.0)

-- the equations that are left are of the classes' cells, and so are all arguments of these
pub record IsGoing (kept : Kept) (c : Classes) (left : List Equation) : Type 0 where
  pub climbing : IsClimbing kept c
  pub closed : (id : CellId) → c.base ≤ id.0 → All (λ (a : CellId). c.base ≤ a.0) (arguments_of kept.cells id)
  pub left_from : All (AreFrom c.base) left

-- it goes on, and something leads on from one cell more
pub record IsCloser (old new : Kept) (before after : Classes) (left : List Equation) : Type 0 where
  pub going : IsGoing new after left
  pub fewer : ends new after < ends old before
