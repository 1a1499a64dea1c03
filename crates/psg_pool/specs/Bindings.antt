-- The bindings of a pool, and the two lists together.
use Rattle.std.specs.Prelude.{◌≡◌, ◌<◌, ◌==◌, List, [], ◌∷◌, length, slice_get, Option, Some, None, if◌then◌else◌, All}
use Rattle.psg_pool.specs.declared.cells.CellId.{CellId}
use Rattle.psg_pool.specs.declared.cells.Binding.{Binding}
use Rattle.psg_pool.specs.declared.cells.Cell.{Cell}
use Rattle.psg_pool.specs.declared.cells.Cell.TheVariants.{Free, Bound, Con}
use Rattle.psg_pool.specs.Cells.{Put, free, constructor, IsAmong, IsPutFree, arguments_of}

-- The target that the cell is bound to, if a binding binds it.
abbrev pub target_of : List Binding → CellId → Option CellId
target_of [] id = None
target_of (b ∷ rest) id = if b.bound.0 == id.0 then Some b.target else target_of rest id

-- Following the bindings from one cell leads to the other, in no step or more.
pub data Leads (bindings : List Binding) : (from to : CellId) → Type 0 where
  arrived : (id : CellId) → Leads bindings id id
  followed : (from next to : CellId) → target_of bindings from ≡ Some next → Leads bindings next to
      → Leads bindings from to

-- The bindings from the cell lead to a cell that is not bound.
pub data Ends (bindings : List Binding) : (from : CellId) → Type 0 where
  unbound : (from : CellId) → target_of bindings from ≡ None → Ends bindings from
  bound : (from next : CellId) → target_of bindings from ≡ Some next → Ends bindings next → Ends bindings from

-- A pool: the cells as they were put, and the bindings in the order in which they were made.
pub record Kept : Type 0 where
  pub cells : List Put
  pub bindings : List Binding

-- The cell was put free and no binding binds it.
abbrev pub IsFree : Kept → CellId → Type 0
IsFree kept id = IsPutFree kept.cells id × (target_of kept.bindings id ≡ None)

-- The cell holds this.
abbrev pub Holds : Kept → CellId → Cell → Type 0
Holds kept id (Free sort) = (slice_get kept.cells id.0 ≡ Some (free sort)) × (target_of kept.bindings id ≡ None)
Holds kept id (Bound target) = IsPutFree kept.cells id × (target_of kept.bindings id ≡ Some target)
Holds kept id (Con number count) =
    (slice_get kept.cells id.0 ≡ Some (constructor number (arguments_of kept.cells id)))
    × (length (arguments_of kept.cells id) ≡ count) × (target_of kept.bindings id ≡ None)

-- The binding binds a cell that was put free to one of the cells.
abbrev pub IsOver : List Put → Binding → Type 0
IsOver cells b = IsPutFree cells b.bound × IsAmong cells b.target

-- What is true of every pool.
pub record IsSound (kept : Kept) : Type 0 where
  -- arguments are before their constructor
  pub arguments : (id : CellId) → All (λ a. a.0 < id.0) (arguments_of kept.cells id)
  -- only cells that were put free are bound, and to cells of the pool
  pub over : All (IsOver kept.cells) kept.bindings
  -- bindings do not lead around in a circle
  pub ends : (id : CellId) → Ends kept.bindings id
