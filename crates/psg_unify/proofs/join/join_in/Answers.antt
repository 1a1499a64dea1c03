use Rattle.psg_unify.proofs.Laws.{releasable}
use Rattle.psg_unify.proofs.Composed.{found}
use Rattle.psg_unify.proofs.Kept.{exact_kept, sorted_kept, within_cells}
use Rattle.psg_unify.proofs.join.join_in.Goals as goal

pub read_picked-requires-clause-fits : goal.read_picked-requires-clause-fits
read_picked-requires-clause-fits c = (found (λ v. v.items) c.args.sig.now c.args.left.now c.args.right.now c.args.pairs.now c.args.pool.now c.solve_in.new.pool c.in_ok-solved.solved c.in-Some.cells c.as_slice.result.now
    c.in-Some.is c.as_slice.ensures.value c.in_ok-solved.ensures.some).fits

pub read_picked-requires-clause-among : goal.read_picked-requires-clause-among
read_picked-requires-clause-among c = (found (λ v. v.items) c.args.sig.now c.args.left.now c.args.right.now c.args.pairs.now c.args.pool.now c.solve_in.new.pool c.in_ok-solved.solved c.in-Some.cells c.as_slice.result.now
    c.in-Some.is c.as_slice.ensures.value c.in_ok-solved.ensures.some).among

pub read_picked-requires-clause-keep : goal.read_picked-requires-clause-keep
read_picked-requires-clause-keep c = within_cells c.args.sig.now c.args.left.now c.args.right.now c.args.pairs.now c.args.pool.now c.solve_in.new.pool c.as_slice.result.now
    (found (λ v. v.items) c.args.sig.now c.args.left.now c.args.right.now c.args.pairs.now c.args.pool.now c.solve_in.new.pool c.in_ok-solved.solved c.in-Some.cells c.as_slice.result.now
    c.in-Some.is c.as_slice.ensures.value c.in_ok-solved.ensures.some) c.args.keep.now c.requires.keep

pub release-requires : goal.release-requires
release-requires c = releasable c.args.pool.now c.solve_in.new.pool c.mark-mark.result c.mark-mark.ensures.releasable c.mark-mark.ensures.cells c.mark-mark.ensures.bindings (found (λ v. v.items) c.args.sig.now c.args.left.now c.args.right.now c.args.pairs.now c.args.pool.now c.solve_in.new.pool c.in_ok-solved.solved c.in-Some.cells c.as_slice.result.now
    c.in-Some.is c.as_slice.ensures.value c.in_ok-solved.ensures.some).grown

pub returns-in-Ok-clause-exact : goal.returns-in-Ok-clause-exact
returns-in-Ok-clause-exact c = λ x.
    exact_kept c.args.sig.now c.args.left.now c.args.right.now c.args.pairs.now c.args.pool.now c.solve_in.new.pool c.as_slice.result.now
    (found (λ v. v.items) c.args.sig.now c.args.left.now c.args.right.now c.args.pairs.now c.args.pool.now c.solve_in.new.pool c.in_ok-solved.solved c.in-Some.cells c.as_slice.result.now
    c.in-Some.is c.as_slice.ensures.value c.in_ok-solved.ensures.some)
    c.in_ok-solved.ensures.sound c.args.keep.now c.in-Ok.row.items c.in-Ok.ensures.same x

pub returns-in-Ok-clause-sorted : goal.returns-in-Ok-clause-sorted
returns-in-Ok-clause-sorted c = λ ls rs hl hr.
    sorted_kept c.args.sig.now c.args.left.now c.args.right.now c.args.pairs.now c.args.pool.now c.solve_in.new.pool c.as_slice.result.now
    (found (λ v. v.items) c.args.sig.now c.args.left.now c.args.right.now c.args.pairs.now c.args.pool.now c.solve_in.new.pool c.in_ok-solved.solved c.in-Some.cells c.as_slice.result.now
    c.in-Some.is c.as_slice.ensures.value c.in_ok-solved.ensures.some)
    c.in_ok-solved.ensures.sound c.args.keep.now c.in-Ok.row.items c.in-Ok.ensures.same c.in-Ok.ensures.sorted ls rs hl hr

pub returns-in-Ok-clause-grown : goal.returns-in-Ok-clause-grown
returns-in-Ok-clause-grown c = (found (λ v. v.items) c.args.sig.now c.args.left.now c.args.right.now c.args.pairs.now c.args.pool.now c.solve_in.new.pool c.in_ok-solved.solved c.in-Some.cells c.as_slice.result.now
    c.in-Some.is c.as_slice.ensures.value c.in_ok-solved.ensures.some).grown

pub returns-in-Ok-clause-fits : goal.returns-in-Ok-clause-fits
returns-in-Ok-clause-fits c = (found (λ v. v.items) c.args.sig.now c.args.left.now c.args.right.now c.args.pairs.now c.args.pool.now c.solve_in.new.pool c.in_ok-solved.solved c.in-Some.cells c.as_slice.result.now
    c.in-Some.is c.as_slice.ensures.value c.in_ok-solved.ensures.some).fits
