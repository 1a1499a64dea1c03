use Rattle.psg_unify.proofs.Composed.{fits_nothing}
use Rattle.psg_tests_values.proofs.tests.callers.a_whole_row.Goals as goal

pub whole_and_count-requires : goal.whole_and_count-requires
whole_and_count-requires g c = fits_nothing c.in_ok-sig.sig c.new-pool.result c.new-pool.ensures.cells c.new-pool.ensures.bindings
