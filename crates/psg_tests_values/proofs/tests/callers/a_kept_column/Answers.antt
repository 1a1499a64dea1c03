use Rattle.psg_unify.proofs.Composed.{fits_nothing}
use Rattle.psg_tests_values.proofs.tests.callers.a_kept_column.Goals as goal

pub kept_and_count-requires : goal.kept_and_count-requires
kept_and_count-requires g c = fits_nothing c.in_ok-sig.sig c.new-pool.result c.new-pool.ensures.cells c.new-pool.ensures.bindings
