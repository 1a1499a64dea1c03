-- Walks over cells that give each of them a value once, what it leads to before it.
use Rattle.std.specs.Prelude.{ℕ, ◌≡◌, ◌≤◌, ◌==◌, ◌&&◌, ◌||◌, Bool, true, false, not, List, [], ◌∷◌}
use Rattle.std.specs.Prelude.{slice_get, set, length, Option, Some, None, All}
use Rattle.psg_terms.specs.Relations.{IsIn}
use Rattle.psg_pool.specs.declared.cells.CellId.{CellId}
use Rattle.psg_pool.specs.declared.cells.Cell.TheVariants.{Free}
use Rattle.psg_pool.specs.Cells.{IsAmong}
use Rattle.psg_pool.specs.Bindings.{Kept, Holds}
use Rattle.psg_unify.specs.declared.walking.Item.{Item}
use Rattle.psg_unify.specs.declared.walking.Item.TheVariants.{Visit, Leave}
use Rattle.psg_unify.specs.Counting.{count_below}
use Rattle.psg_unify.specs.Circles.{cell_of, IsStack, IsDue}

-- the cell has its value
abbrev pub IsFilled : {X : Type 0} → List (Option X) → CellId → Type 0
IsFilled {X} values id = (x : X) × (slice_get values id.0 ≡ Some (Some x))

-- the cell got a value, and all else is as it was
abbrev pub IsKept : {X : Type 0} → List (Option X) → List (Option X) → CellId → Type 0
IsKept {X} old new id = (x : X) × (new ≡ set old id.0 (Some x))

-- What is known while cells get their values, and in the end each of these cells has its own.
pub record IsFilling {X : Type 0} (kept : Kept) (cells : List CellId) (values : List (Option X)) (stack : List Item)
    : Type 0 where
  pub path : IsStack kept stack
  pub due : IsDue kept (λ (x : CellId). IsIn x cells) (IsFilled values) stack
  pub within : All (λ (i : Item). IsAmong kept.cells (cell_of i)) stack
  -- open cells are not to be left
  pub leads : (x : CellId) (s : ℕ) → IsIn (Leave x) stack → Holds kept x (Free s) → ⊥
  pub count : length values ≡ length kept.cells

abbrev pub StaysFilling : {X : Type 0} → Kept → (old new : List (Option X)) → (stack rest : List Item) → Type 0
StaysFilling kept old new stack rest =
    (cells : List CellId) → IsFilling kept cells old stack → IsFilling kept cells new rest

-- the cell is to be left
abbrev pub is_leave : ℕ → Item → Bool
is_leave k (Visit id) = false
is_leave k (Leave id) = id.0 == k

abbrev pub is_opened : List Item → ℕ → Bool
is_opened [] k = false
is_opened (i ∷ rest) k = is_leave k i || is_opened rest k

abbrev pub is_value : {X : Type 0} → Option (Option X) → Bool
is_value None = false
is_value (Some None) = false
is_value (Some (Some x)) = true

-- how many cells have no value and are not to be left
abbrev pub is_fresh : {X : Type 0} → List (Option X) → List Item → ℕ → Bool
is_fresh values stack k = not (is_value (slice_get values k)) && not (is_opened stack k)

abbrev pub fresh : {X : Type 0} → List (Option X) → List Item → ℕ
fresh values stack = count_below (length values) (is_fresh values stack)

-- Cells got their values, and the next one has none.
pub record IsNextEmpty {X : Type 0} (kept : Kept) (old new : List (Option X)) (stack rest : List Item) (id : CellId)
    : Type 0 where
  pub stays : StaysFilling kept old new stack (Visit id ∷ rest)
  pub other : IsFilled new id → ⊥
  pub fewer : fresh new (Visit id ∷ rest) ≤ fresh old stack
