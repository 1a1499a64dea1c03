use Rattle.std.proofs.Common.{arith}
use Rattle.psg_unify.proofs.Laws.{releasable}
use Rattle.psg_unify.proofs.Composed.{known_where}
use Rattle.psg_tests_values.proofs.tests.callers.kept_and_count.Goals as goal

pub join_in-requires-clause-keep : goal.join_in-requires-clause-keep
join_in-requires-clause-keep c = λ k d l. let x = c.within.ensures c.if-not-within.false k d l in omega (arith, x)

pub release-requires : goal.release-requires
release-requires c = releasable c.args.pool.now c.join_in.new.pool c.mark-mark.result c.mark-mark.ensures.releasable c.mark-mark.ensures.cells c.mark-mark.ensures.bindings
    (known_where c.in_ok-joined.joined c.in-Some.row c.in-Some.is c.in_ok-joined.ensures.grown)
