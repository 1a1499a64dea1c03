use Rattle.std.proofs.Common.{All, refl, sym, subst}
use Rattle.psg_pool.specs.Cells.{IsAmong}
use Rattle.psg_unify.proofs.Composed.{found, fits_nothing}
use Rattle.psg_unify.proofs.Kept.{within_cells, picked-all}
use Rattle.psg_unify.proofs.ReadWalk.{falls_round}
use Rattle.psg_unify.proofs.UnwrittenRows.{unwritten}
use Rattle.psg_unify.proofs.unwritten.UnwrittenRow.of.Goals as goal

pub solve_in-requires-clause-fits : goal.solve_in-requires-clause-fits
solve_in-requires-clause-fits c = fits_nothing c.args.sig.now c.new-pool.result c.new-pool.ensures.cells c.new-pool.ensures.bindings

pub picked_cells-requires : goal.picked_cells-requires
picked_cells-requires c = within_cells c.args.sig.now c.args.left.now c.args.right.now c.args.pairs.now c.new-pool.result c.solve_in.new.pool c.as_slice.result.now
    (found (λ v. v.items) c.args.sig.now c.args.left.now c.args.right.now c.args.pairs.now c.new-pool.result c.solve_in.new.pool c.in_ok-solved.solved c.in-Some.columns c.as_slice.result.now
    c.in-Some.is c.as_slice.ensures.value c.in_ok-solved.ensures.some) c.args.keep.now c.requires.keep

pub returns-in_ok-cells-in-Some-clause-some : goal.returns-in_ok-cells-in-Some-clause-some
returns-in_ok-cells-in-Some-clause-some c =
    unwritten c.args.sig.now c.args.left.now c.args.right.now c.args.pairs.now c.new-pool.result c.solve_in.new.pool c.as_slice.result.now
    (found (λ v. v.items) c.args.sig.now c.args.left.now c.args.right.now c.args.pairs.now c.new-pool.result c.solve_in.new.pool c.in_ok-solved.solved c.in-Some.columns c.as_slice.result.now
    c.in-Some.is c.as_slice.ensures.value c.in_ok-solved.ensures.some)
    c.in_ok-solved.ensures.sound c.args.keep.now _ refl c.in_ok-cells-in-Some.ensures

pub invariant_of-result-clause-among : goal.invariant_of-result-clause-among
invariant_of-result-clause-among c =
    let s = (found (λ v. v.items) c.args.sig.now c.args.left.now c.args.right.now c.args.pairs.now c.new-pool.result c.solve_in.new.pool c.in_ok-solved.solved c.in-Some.columns c.as_slice.result.now
    c.in-Some.is c.as_slice.ensures.value c.in_ok-solved.ensures.some) in
    subst (All (IsAmong c.solve_in.new.pool.cells)) (sym c.in_ok-cells-in-Some.ensures) (picked-all (IsAmong c.solve_in.new.pool.cells) c.as_slice.result.now c.args.keep.now s.among)

pub invariant_of-result-clause-circles : goal.invariant_of-result-clause-circles
invariant_of-result-clause-circles c =
    let s = (found (λ v. v.items) c.args.sig.now c.args.left.now c.args.right.now c.args.pairs.now c.new-pool.result c.solve_in.new.pool c.in_ok-solved.solved c.in-Some.columns c.as_slice.result.now
    c.in-Some.is c.as_slice.ensures.value c.in_ok-solved.ensures.some) in
    falls_round c.solve_in.new.pool s.fits.height s.fits.falls
