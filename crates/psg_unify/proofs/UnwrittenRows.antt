-- A solved join that is not written out has what the join has.
use Rattle.std.proofs.Common.{◌≡◌, ◌↔◌, ◌++◌, ℕ, Bool, IsTrue, List, map, ap, sym, ◌∙◌, subst}
use Rattle.psg_terms.specs.Terms.{Term}
use Rattle.psg_terms.specs.Signature.{Signature, HaveSorts}
use Rattle.psg_terms.specs.Instances.{IsGroundInstance, AllGroundInstancesIn}
use Rattle.psg_pool.specs.declared.cells.CellId.{CellId}
use Rattle.psg_pool.specs.Bindings.{Kept, IsSound}
use Rattle.psg_unify.specs.declared.unwritten.UnwrittenRow.{UnwrittenRow}
use Rattle.psg_unify.specs.Pairs.{Pair}
use Rattle.psg_unify.specs.Columns.{picked, Joins}
use Rattle.psg_unify.specs.Reading.{Reading, IsReading}
use Rattle.psg_unify.specs.Solved.{IsSolvedIn}
use Rattle.psg_unify.specs.Unwritten.{IsUnwritten}
use Rattle.psg_unify.proofs.Laws.{read_by, has_reading}
use Rattle.psg_unify.proofs.Picking.{picked-sorts, picked_ground}
use Rattle.psg_unify.proofs.Kept.{picked-map}

pub unwritten : (sig : Signature) (left right : List Term) (pairs : List Pair) (old new : Kept) (cells : List CellId) → IsSolvedIn sig left right pairs old new cells → IsSound new
    → (keep : List ℕ) (row : UnwrittenRow) → row.pool ≡ new → row.cells.items ≡ picked cells keep → IsUnwritten sig left right pairs keep row
unwritten sig left right pairs old new cells s sound keep row p e =
    let read = read_by new s.fits.height s.fits.falls in
    let r = has_reading new s.fits.height s.fits.falls sound in
    let columns : map read row.cells.items ≡ picked (map read cells) keep = ap (map read) e ∙ picked-map read cells keep in
    record {
      read = read;
      reads = subst (λ k. IsReading k read) (sym p) r;
      exact = λ x. subst (λ l. IsGroundInstance sig l x ↔ Joins sig pairs keep left right x) (sym columns) (
        λ i. let (full, g, d) = (picked_ground sig (map read cells) keep x).0 i in (full, (s.joined read r full).0 g, d),
        λ (full, a, d). (picked_ground sig (map read cells) keep x).1 (full, (s.joined read r full).1 a, d),
      );
      sorted = λ ls rs hl hr. subst (λ l. HaveSorts sig l (picked (ls ++ rs) keep)) (sym columns) (picked-sorts sig (map read cells) (ls ++ rs) keep (s.sorted read r ls rs hl hr));
    }

-- an answer on what the cells read as is one on the join
pub unwritten_instance : (sig : Signature) (row : UnwrittenRow) (general : List Term) (b : Bool)
    → ((read : Reading) → IsReading row.pool read → (ss : List ℕ) → HaveSorts sig (map read row.cells.items) ss → HaveSorts sig general ss → IsTrue b ↔ AllGroundInstancesIn sig (map read row.cells.items) general)
    → (left right : List Term) (pairs : List Pair) (keep : List ℕ) → IsUnwritten sig left right pairs keep row
    → (ls rs : List ℕ) → HaveSorts sig left ls → HaveSorts sig right rs → HaveSorts sig general (picked (ls ++ rs) keep)
    → IsTrue b ↔ ((x : List Term) → Joins sig pairs keep left right x → IsGroundInstance sig general x)
unwritten_instance sig row general b h left right pairs keep u ls rs hl hr hg =
    let both = h u.read u.reads (picked (ls ++ rs) keep) (u.sorted ls rs hl hr) hg in (
      λ t x j. both.0 t x ((u.exact x).1 j),
      λ a. both.1 (λ x i. a x ((u.exact x).0 i)),
    )
