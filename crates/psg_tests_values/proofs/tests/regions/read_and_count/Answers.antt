use Rattle.psg_unify.proofs.Laws.{releasable}
use Rattle.psg_unify.proofs.Composed.{found}
use Rattle.psg_tests_values.proofs.tests.regions.read_and_count.Goals as goal

pub read_row-requires-clause-fits : goal.read_row-requires-clause-fits
read_row-requires-clause-fits c = (found (λ v. v.items) c.args.sig.now c.args.left.now c.args.right.now c.args.pairs.now c.args.pool.now c.solve_in.new.pool c.in_ok-solved.solved c.in-Some.cells c.as_slice.result.now
    c.in-Some.is c.as_slice.ensures.value c.in_ok-solved.ensures.some).fits

pub read_row-requires-clause-among : goal.read_row-requires-clause-among
read_row-requires-clause-among c = (found (λ v. v.items) c.args.sig.now c.args.left.now c.args.right.now c.args.pairs.now c.args.pool.now c.solve_in.new.pool c.in_ok-solved.solved c.in-Some.cells c.as_slice.result.now
    c.in-Some.is c.as_slice.ensures.value c.in_ok-solved.ensures.some).among

pub release-requires : goal.release-requires
release-requires c = releasable c.args.pool.now c.solve_in.new.pool c.mark-mark.result c.mark-mark.ensures.releasable c.mark-mark.ensures.cells c.mark-mark.ensures.bindings (found (λ v. v.items) c.args.sig.now c.args.left.now c.args.right.now c.args.pairs.now c.args.pool.now c.solve_in.new.pool c.in_ok-solved.solved c.in-Some.cells c.as_slice.result.now
    c.in-Some.is c.as_slice.ensures.value c.in_ok-solved.ensures.some).grown
