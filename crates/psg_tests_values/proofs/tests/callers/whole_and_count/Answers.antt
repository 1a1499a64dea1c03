use Rattle.psg_unify.proofs.Laws.{releasable}
use Rattle.psg_unify.proofs.Composed.{known_where}
use Rattle.psg_tests_values.proofs.tests.callers.whole_and_count.Goals as goal

pub release-requires : goal.release-requires
release-requires c = releasable c.args.pool.now c.join_rows_in.new.pool c.mark-mark.result c.mark-mark.ensures.releasable c.mark-mark.ensures.cells c.mark-mark.ensures.bindings
    (known_where c.in_ok-joined.joined c.in-Some.row c.in-Some.is c.in_ok-joined.ensures.grown)
