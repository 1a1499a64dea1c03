-- Marks: the lengths of the two lists of a pool.
use Rattle.std.specs.Prelude.{ℕ, ◌≤◌, ◌<◌, length, take, All}
use Rattle.psg_pool.specs.Bindings.{Kept}

-- A number of cells and a number of bindings.
pub record Lengths : Type 0 where
  pub cells : ℕ
  pub bindings : ℕ

-- The pool may be cut to these lengths: it has as much, and the bindings that stay are over cells that stay.
pub record IsReleasable (kept : Kept) (mark : Lengths) : Type 0 where
  pub cells : mark.cells ≤ length kept.cells
  pub bindings : mark.bindings ≤ length kept.bindings
  pub stay : All (λ b. (b.bound.0 < mark.cells) × (b.target.0 < mark.cells)) (take mark.bindings kept.bindings)
