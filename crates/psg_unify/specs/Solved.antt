-- What a pool holds where two rows were solved in it.
use Rattle.std.specs.Prelude.{ℕ, ◌≡◌, ◌≤◌, ◌↔◌, ◌++◌, true, false, List, map, length, All, Some}
use Rattle.psg_terms.specs.Terms.{Term}
use Rattle.psg_terms.specs.Signature.{Signature, HaveSorts}
use Rattle.psg_terms.specs.Canonical.{Variable, is_noted, variables_of}
use Rattle.psg_terms.specs.Instances.{IsGroundInstance, HasSameInstances}
use Rattle.psg_terms.specs.Relations.{IsIn}
use Rattle.psg_pool.specs.declared.cells.CellId.{CellId}
use Rattle.psg_pool.specs.declared.cells.Binding.{Binding}
use Rattle.psg_pool.specs.Cells.{Put, IsAmong, arguments_of}
use Rattle.psg_pool.specs.Bindings.{Kept, target_of}
use Rattle.psg_unify.specs.Pairs.{Pair, IsAgreeing}
use Rattle.psg_unify.specs.Reading.{Reading, IsReading}
use Rattle.psg_unify.specs.Fitting.{Fits}

-- bindings and arguments lead from one cell to the other, in no step or more
pub data Reaches (kept : Kept) : (from to : CellId) → Type 0 where
  here : (id : CellId) → Reaches kept id id
  by_binding : (from next to : CellId) → target_of kept.bindings from ≡ Some next → Reaches kept next to
      → Reaches kept from to
  by_argument : (from next to : CellId) → IsIn next (arguments_of kept.cells from) → Reaches kept next to
      → Reaches kept from to

-- Old cells and bindings stay as prefixes, and each new binding is of a new cell.
pub record IsGrown (old new : Kept) : Type 0 where
  pub cells : List Put
  pub cells_are : new.cells ≡ old.cells ++ cells
  pub bindings : List Binding
  pub bindings_are : new.bindings ≡ old.bindings ++ bindings
  pub own : All (λ (b : Binding). length old.cells ≤ b.bound.0) bindings

-- the new cells under the old bindings alone
abbrev pub by_old : Kept → Kept → Kept
by_old old new = record { cells = new.cells; bindings = old.bindings }

-- Two rows are in the pool as they are by the old bindings, apart, and solved on the pairs by all bindings.
pub record IsSolvedIn (sig : Signature) (left right : List Term) (pairs : List Pair) (old new : Kept)
    (cells : List CellId) : Type 0 where
  pub fits : Fits sig new
  pub grown : IsGrown old new
  -- one cell for each left column, and then one for each right column
  pub lefts : List CellId
  pub rights : List CellId
  pub columns : cells ≡ lefts ++ rights
  pub left_count : length lefts ≡ length left
  pub right_count : length rights ≡ length right
  -- they are there, and lead to new cells alone
  pub among : All (IsAmong new.cells) cells
  pub alone : (id to : CellId) → IsIn id cells → Reaches new id to → length old.cells ≤ to.0
  -- by the old bindings they are the two rows, and no free cell is reached from both
  pub left_row : (read : Reading) → IsReading (by_old old new) read → HasSameInstances sig (map read lefts) left
  pub right_row : (read : Reading) → IsReading (by_old old new) read → HasSameInstances sig (map read rights) right
  pub apart : (read : Reading) → IsReading (by_old old new) read → (x : Variable)
      → is_noted x (variables_of (map read lefts)) ≡ true → is_noted x (variables_of (map read rights)) ≡ false
  -- by all bindings they are the join
  pub joined : (read : Reading) → IsReading new read → (values : List Term)
      → IsGroundInstance sig (map read cells) values ↔ IsAgreeing sig left right pairs values
  pub sorted : (read : Reading) → IsReading new read → (ls rs : List ℕ) → HaveSorts sig left ls → HaveSorts sig right rs
      → HaveSorts sig (map read cells) (ls ++ rs)
