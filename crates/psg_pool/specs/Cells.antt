-- The cells of a pool, as they were put.
use Rattle.std.specs.Prelude.{ℕ, ◌≡◌, ◌<◌, List, [], length, slice_get, Option, Some, None}
use Rattle.psg_pool.specs.declared.cells.CellId.{CellId}

-- A cell as it was put: free, of a sort, or a constructor with its argument cells.
pub data Put : Type 0 where
  free : (sort : ℕ) → Put
  constructor : (number : ℕ) (arguments : List CellId) → Put

-- The cell is one of the cells.
abbrev pub IsAmong : List Put → CellId → Type 0
IsAmong cells id = id.0 < length cells

-- The cell was put free.
abbrev pub IsPutFree : List Put → CellId → Type 0
IsPutFree cells id = (sort : ℕ) × (slice_get cells id.0 ≡ Some (free sort))

-- The argument cells that were put, none for a free cell.
abbrev pub arguments_in : Option Put → List CellId
arguments_in None = []
arguments_in (Some (free _)) = []
arguments_in (Some (constructor _ arguments)) = arguments

-- the arguments of the cell of this number, and none where it is no constructor cell
abbrev pub arguments_of : List Put → CellId → List CellId
arguments_of cells id = arguments_in (slice_get cells id.0)
