use Rattle.std.proofs.Common.{sym, subst, ◌∙◌}
use Rattle.psg_unify.specs.Fitting.{Fits}
use Rattle.psg_unify.proofs.Composed.{fits_nothing}
use Rattle.psg_tests_values.proofs.tests.regions.one_pool_for_two_joins.Goals as goal

pub is_solved-requires : goal.is_solved-requires
is_solved-requires g c = fits_nothing c.in_ok-sig.sig c.new-pool.result c.new-pool.ensures.cells c.new-pool.ensures.bindings

pub is_refused-requires : goal.is_refused-requires
is_refused-requires g c = subst (Fits c.in_ok-sig.sig) (sym c.is_solved.ensures) (fits_nothing c.in_ok-sig.sig c.new-pool.result c.new-pool.ensures.cells c.new-pool.ensures.bindings)

pub is_solved-requires-2 : goal.is_solved-requires-2
is_solved-requires-2 g c =
    subst (Fits c.in_ok-sig.sig) (sym (c.is_refused.ensures ∙ c.is_solved.ensures)) (fits_nothing c.in_ok-sig.sig c.new-pool.result c.new-pool.ensures.cells c.new-pool.ensures.bindings)
