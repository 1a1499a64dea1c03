-- The cell was put free into an empty pool, so nothing is bound yet.
use Rattle.std.proofs.Common.{◌≡◌, ◌≢◌, None, List, [], ◌++◌, ◌∷◌, length, refl, ap, ◌∙◌, arith, length-append}
use Rattle.psg_pool.specs.Cells.{Put, free}
use Rattle.psg_pool.specs.Bindings.{target_of}
use Rattle.psg_pool.proofs.Places.{slice_get-append, slice_get-append_last}
use Rattle.psg_pool.proofs.Laws.{leads_nowhere}
use Rattle.psg_tests_store.proofs.tests.pools.a_refused_call_leaves_the_pool.Goals as goal

pub bind-requires-clause-is_free : goal.bind-requires-clause-is_free
bind-requires-clause-is_free g c =
    let none : c.put_con.new.self.bindings ≡ [] = c.put_con.ensures.keeps ∙ c.put_free.ensures.keeps ∙ c.new-pool.ensures.bindings in (
      (
        4,
        rw c.in-Ok-put_con.ensures.ok
            (slice_get-append c.put_free.new.self.cells _ c.in-Ok.variable.0 (free 4)
            (rw c.in-Ok.ensures.ok (slice_get-append_last c.new-pool.result.cells (free 4) c.in-Ok.variable.0 c.in-Ok.ensures.id))),
      ),
      rw none refl,
    )

pub bind-requires-clause-apart : goal.bind-requires-clause-apart
bind-requires-clause-apart g c =
    let none : c.put_con.new.self.bindings ≡ [] = c.put_con.ensures.keeps ∙ c.put_free.ensures.keeps ∙ c.new-pool.ensures.bindings in
    let unbound : target_of c.put_con.new.self.bindings c.in-Ok-put_con.constant ≡ None = rw none refl in
    let size : length c.put_free.new.self.cells ≡ length (c.new-pool.result.cells ++ free 4 ∷ []) = ap (λ (l : List Put). length l) c.in-Ok.ensures.ok in
    let apart : c.in-Ok-put_con.constant.0 ≢ c.in-Ok.variable.0 =
    omega (arith, size, length-append c.new-pool.result.cells (free 4 ∷ []), c.in-Ok.ensures.id, c.in-Ok-put_con.ensures.id) in
    leads_nowhere c.put_con.new.self.bindings c.in-Ok-put_con.constant c.in-Ok.variable unbound apart
