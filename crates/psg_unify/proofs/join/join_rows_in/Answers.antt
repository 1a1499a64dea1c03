use Rattle.psg_unify.proofs.Laws.{releasable}
use Rattle.psg_unify.proofs.Composed.{exact_by_cells, some_by_cells, sorted_by_cells, found}
use Rattle.psg_unify.proofs.join.join_rows_in.Goals as goal

pub read_row-requires-clause-fits : goal.read_row-requires-clause-fits
read_row-requires-clause-fits c = (found (λ v. v.items) c.args.sig.now c.args.left.now c.args.right.now c.args.pairs.now c.args.pool.now c.solve_in.new.pool c.in_ok-solved.solved c.in-Some.cells c.as_slice.result.now
    c.in-Some.is c.as_slice.ensures.value c.in_ok-solved.ensures.some).fits

pub read_row-requires-clause-among : goal.read_row-requires-clause-among
read_row-requires-clause-among c = (found (λ v. v.items) c.args.sig.now c.args.left.now c.args.right.now c.args.pairs.now c.args.pool.now c.solve_in.new.pool c.in_ok-solved.solved c.in-Some.cells c.as_slice.result.now
    c.in-Some.is c.as_slice.ensures.value c.in_ok-solved.ensures.some).among

pub release-requires : goal.release-requires
release-requires c = releasable c.args.pool.now c.solve_in.new.pool c.mark-mark.result c.mark-mark.ensures.releasable c.mark-mark.ensures.cells c.mark-mark.ensures.bindings (found (λ v. v.items) c.args.sig.now c.args.left.now c.args.right.now c.args.pairs.now c.args.pool.now c.solve_in.new.pool c.in_ok-solved.solved c.in-Some.cells c.as_slice.result.now
    c.in-Some.is c.as_slice.ensures.value c.in_ok-solved.ensures.some).grown

pub returns-in-Ok-clause-exact : goal.returns-in-Ok-clause-exact
returns-in-Ok-clause-exact c = λ values.
    exact_by_cells c.args.sig.now c.args.left.now c.args.right.now c.args.pairs.now c.args.pool.now c.solve_in.new.pool c.as_slice.result.now c.in_ok-solved.ensures.sound
    (found (λ v. v.items) c.args.sig.now c.args.left.now c.args.right.now c.args.pairs.now c.args.pool.now c.solve_in.new.pool c.in_ok-solved.solved c.in-Some.cells c.as_slice.result.now
    c.in-Some.is c.as_slice.ensures.value c.in_ok-solved.ensures.some)
    c.in-Ok.row.items c.in-Ok.ensures.same values

pub returns-in-Ok-clause-some : goal.returns-in-Ok-clause-some
returns-in-Ok-clause-some c =
    some_by_cells c.args.sig.now c.args.left.now c.args.right.now c.args.pairs.now c.args.pool.now c.solve_in.new.pool c.as_slice.result.now c.in_ok-solved.ensures.sound
    (found (λ v. v.items) c.args.sig.now c.args.left.now c.args.right.now c.args.pairs.now c.args.pool.now c.solve_in.new.pool c.in_ok-solved.solved c.in-Some.cells c.as_slice.result.now
    c.in-Some.is c.as_slice.ensures.value c.in_ok-solved.ensures.some)
    c.in-Ok.row.items c.in-Ok.ensures.same c.sound.ensures

pub returns-in-Ok-clause-sorted : goal.returns-in-Ok-clause-sorted
returns-in-Ok-clause-sorted c = λ ls rs hl hr.
    sorted_by_cells c.args.sig.now c.args.left.now c.args.right.now c.args.pairs.now c.args.pool.now c.solve_in.new.pool c.as_slice.result.now c.in_ok-solved.ensures.sound
    (found (λ v. v.items) c.args.sig.now c.args.left.now c.args.right.now c.args.pairs.now c.args.pool.now c.solve_in.new.pool c.in_ok-solved.solved c.in-Some.cells c.as_slice.result.now
    c.in-Some.is c.as_slice.ensures.value c.in_ok-solved.ensures.some)
    c.in-Ok.row.items c.in-Ok.ensures.same c.in-Ok.ensures.sorted ls rs hl hr

pub returns-in-Ok-clause-grown : goal.returns-in-Ok-clause-grown
returns-in-Ok-clause-grown c = (found (λ v. v.items) c.args.sig.now c.args.left.now c.args.right.now c.args.pairs.now c.args.pool.now c.solve_in.new.pool c.in_ok-solved.solved c.in-Some.cells c.as_slice.result.now
    c.in-Some.is c.as_slice.ensures.value c.in_ok-solved.ensures.some).grown

pub returns-in-Ok-clause-fits : goal.returns-in-Ok-clause-fits
returns-in-Ok-clause-fits c = (found (λ v. v.items) c.args.sig.now c.args.left.now c.args.right.now c.args.pairs.now c.args.pool.now c.solve_in.new.pool c.in_ok-solved.solved c.in-Some.cells c.as_slice.result.now
    c.in-Some.is c.as_slice.ensures.value c.in_ok-solved.ensures.some).fits
