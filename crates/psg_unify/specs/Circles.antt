-- Walks over cells that look for circles, and heights.
use Rattle.std.specs.Prelude.{ℕ, ◌≡◌, ◌<◌, ◌≤◌, ◌+◌, ◌++◌, ◌⊎◌, List, [], ◌∷◌}
use Rattle.std.specs.Prelude.{map, length, slice_get, Option, Some, None, All}
use Rattle.psg_terms.specs.Relations.{IsIn}
use Rattle.psg_pool.specs.declared.cells.CellId.{CellId}
use Rattle.psg_pool.specs.Cells.{Put, IsAmong, arguments_of}
use Rattle.psg_pool.specs.Bindings.{Kept, target_of}
use Rattle.psg_unify.specs.declared.circles.Progress.{Progress}
use Rattle.psg_unify.specs.declared.circles.Progress.TheVariants.{New, Open, Left}
use Rattle.psg_unify.specs.declared.walking.Item.{Item}
use Rattle.psg_unify.specs.declared.walking.Item.TheVariants.{Visit, Leave}
use Rattle.psg_unify.specs.Solved.{Reaches}

-- one cell is bound to the other, or has it as an argument
abbrev pub IsEdge : Kept → CellId → CellId → Type 0
IsEdge kept from to = (target_of kept.bindings from ≡ Some to) ⊎ IsIn to (arguments_of kept.cells from)

-- some cell leads back to itself
abbrev pub HasCircle : Kept → Type 0
HasCircle kept = (x : CellId) × (y : CellId) × Reaches kept x y × IsEdge kept y x

-- the walk has done this at the cell
abbrev pub IsAt : ℕ → List Progress → CellId → Progress → Type 0
IsAt base marks id p = (k : ℕ) × (id.0 ≡ base + k) × (slice_get marks k ≡ Some p)

-- how many cells the walk did not reach yet
abbrev pub one_new : Progress → ℕ
one_new New = 1
one_new Open = 0
one_new Left = 0

abbrev pub unseen : List Progress → ℕ
unseen [] = 0
unseen (p ∷ marks) = one_new p + unseen marks

-- the cell of what is still to be done
abbrev pub cell_of : Item → CellId
cell_of (Visit id) = id
cell_of (Leave id) = id

-- it is one of the cells from this one on
abbrev pub IsFromOn : ℕ → List Put → CellId → Type 0
IsFromOn base cells id = (base ≤ id.0) × IsAmong cells id

-- the cells from this one on lead to such cells alone
abbrev pub IsClosed : ℕ → Kept → Type 0
IsClosed base kept = (id to : CellId) → base ≤ id.0 → IsEdge kept id to → base ≤ to.0

-- the cell that is to be left first
abbrev pub leaving : List Item → Option CellId
leaving [] = None
leaving (Visit id ∷ rest) = leaving rest
leaving (Leave id ∷ rest) = Some id

-- a cell leads on to the other one, if there is one
abbrev pub LeadsOn : Kept → Option CellId → CellId → Type 0
LeadsOn kept None to = Unit {0}
LeadsOn kept (Some from) to = IsEdge kept from to

-- what is to be visited or left is where the cell leads that is to be left next after it
abbrev pub IsStack : Kept → List Item → Type 0
IsStack kept [] = Unit {0}
IsStack kept (Visit id ∷ rest) = LeadsOn kept (leaving rest) id × IsStack kept rest
IsStack kept (Leave id ∷ rest) = LeadsOn kept (leaving rest) id × IsStack kept rest

-- Where these cells are done, each cell that is to be left finds all done to which it leads, and in the end all cells
-- of the goal are done.
abbrev pub IsDue : Kept → (goal done : CellId → Type 0) → List Item → Type 0
IsDue kept goal done [] = (x : CellId) → goal x → done x
IsDue kept goal done (Visit id ∷ rest) = IsDue kept goal (λ (x : CellId). (x ≡ id) ⊎ done x) rest
IsDue kept goal done (Leave id ∷ rest) =
    ((to : CellId) → IsEdge kept id to → done to) × IsDue kept goal (λ (x : CellId). (x ≡ id) ⊎ done x) rest

-- the cells that are to be left are open, and each is to be left once
abbrev pub AreOpen : ℕ → List Progress → List Item → Type 0
AreOpen base marks [] = Unit {0}
AreOpen base marks (Visit id ∷ rest) = AreOpen base marks rest
AreOpen base marks (Leave id ∷ rest) = IsAt base marks id Open × (IsIn (Leave id) rest → ⊥) × AreOpen base marks rest

-- what is known during a walk
pub record IsWalking (kept : Kept) (base : ℕ) (marks : List Progress) (stack : List Item) : Type 0 where
  pub path : IsStack kept stack
  pub opened : (x : CellId) → IsAt base marks x Open → IsIn (Leave x) stack
  pub leaves : AreOpen base marks stack
  pub due : IsDue kept (IsFromOn base kept.cells) (λ (x : CellId). IsAt base marks x Left) stack
  pub within : All (λ (i : Item). IsFromOn base kept.cells (cell_of i)) stack
  pub count : base + length marks ≡ length kept.cells
  pub closed : IsClosed base kept
  -- cells that were left are above those to which they lead
  pub height : CellId → ℕ
  pub top : ℕ
  pub low : (x : CellId) → IsAt base marks x Left → height x < top
  pub falls : (x : CellId) → IsAt base marks x Left → (to : CellId) → IsEdge kept x to
      → IsAt base marks to Left × (height to < height x)

-- it goes on, whatever pool it is in
abbrev pub StaysWalking : ℕ → (old new : List Progress) → (stack rest : List Item) → Type 0
StaysWalking base old new stack rest = (kept : Kept) → IsWalking kept base old stack → IsWalking kept base new rest

-- visits to all cells from this one on up to that one, and to no others
pub record AreVisits (base end : ℕ) (stack : List Item) : Type 0 where
  pub cells : List CellId
  pub stack_is : stack ≡ map (λ (a : CellId). Visit a) cells
  pub within : All (λ (id : CellId). (base ≤ id.0) × (id.0 < end)) cells
  pub each : (id : CellId) → base ≤ id.0 → id.0 < end → IsIn id cells

-- visits to the cells to which the cell leads were put on the stack
pub record HasNext (kept : Kept) (id : CellId) (old new : List Item) : Type 0 where
  pub cells : List CellId
  pub stack : new ≡ map (λ (a : CellId). Visit a) cells ++ old
  pub next : All (IsEdge kept id) cells
  pub each : (to : CellId) → IsEdge kept id to → IsIn to cells

-- each cell from this one on is above the cells to which it leads, which are such cells too
abbrev pub FallsFrom : Kept → ℕ → (CellId → ℕ) → Type 0
FallsFrom kept base height = (id : CellId) → base ≤ id.0 → id.0 < length kept.cells → (to : CellId) → IsEdge kept id to
    → (base ≤ to.0) × (height to < height id)
