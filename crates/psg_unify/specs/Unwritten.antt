-- Joins of two rows that are solved in a pool and not written out.
use Rattle.std.specs.Prelude.{ℕ, ◌↔◌, ◌++◌, List, map}
use Rattle.psg_terms.specs.Terms.{Term}
use Rattle.psg_terms.specs.Signature.{Signature, HaveSorts}
use Rattle.psg_terms.specs.Instances.{IsGroundInstance}
use Rattle.psg_unify.specs.declared.unwritten.UnwrittenRow.{UnwrittenRow}
use Rattle.psg_unify.specs.Pairs.{Pair}
use Rattle.psg_unify.specs.Columns.{picked, Joins}
use Rattle.psg_unify.specs.Reading.{Reading, IsReading}

-- what the cells read as has exactly the kept columns of both rows that agree
pub record IsUnwritten (sig : Signature) (left right : List Term) (pairs : List Pair) (keep : List ℕ)
    (row : UnwrittenRow) : Type 0 where
  pub read : Reading
  pub reads : IsReading row.pool read
  pub exact : (x : List Term) → IsGroundInstance sig (map read row.cells.items) x ↔ Joins sig pairs keep left right x
  pub sorted : (ls rs : List ℕ) → HaveSorts sig left ls → HaveSorts sig right rs
      → HaveSorts sig (map read row.cells.items) (picked (ls ++ rs) keep)
