-- The cell was put free into an empty pool, so nothing is bound yet.
use Rattle.std.proofs.Common.{◌≡◌, ◌≢◌, None, List, [], ◌++◌, ◌∷◌, length, refl, ap, ◌∙◌, arith, length-append}
use Rattle.psg_pool.specs.Cells.{Put, free}
use Rattle.psg_pool.specs.Bindings.{target_of}
use Rattle.psg_pool.proofs.Places.{slice_get-append, slice_get-append_last}
use Rattle.psg_pool.proofs.Laws.{leads_nowhere}
use Rattle.psg_tests_store.proofs.tests.pools.release_takes_the_cells_after_the_mark.Goals as goal

pub bind-requires-clause-is_free : goal.bind-requires-clause-is_free
bind-requires-clause-is_free g c =
    let none : c.put_con.new.self.bindings ≡ [] = c.put_con.ensures.keeps ∙ c.put_free.ensures.keeps ∙ c.new-pool.ensures.bindings in (
      (
        4,
        rw c.in_ok-gone.ensures.ok
            (slice_get-append c.put_free.new.self.cells _ c.in_ok-kept.kept.0 (free 4)
            (rw c.in_ok-kept.ensures.ok (slice_get-append_last c.new-pool.result.cells (free 4) c.in_ok-kept.kept.0 c.in_ok-kept.ensures.id))),
      ),
      rw none refl,
    )

pub bind-requires-clause-apart : goal.bind-requires-clause-apart
bind-requires-clause-apart g c =
    let none : c.put_con.new.self.bindings ≡ [] = c.put_con.ensures.keeps ∙ c.put_free.ensures.keeps ∙ c.new-pool.ensures.bindings in
    let unbound : target_of c.put_con.new.self.bindings c.in_ok-gone.gone ≡ None = rw none refl in
    let size : length c.put_free.new.self.cells ≡ length (c.new-pool.result.cells ++ free 4 ∷ []) = ap (λ (l : List Put). length l) c.in_ok-kept.ensures.ok in
    let apart : c.in_ok-gone.gone.0 ≢ c.in_ok-kept.kept.0 =
    omega (arith, size, length-append c.new-pool.result.cells (free 4 ∷ []), c.in_ok-kept.ensures.id, c.in_ok-gone.ensures.id) in
    leads_nowhere c.put_con.new.self.bindings c.in_ok-gone.gone c.in_ok-kept.kept unbound apart
