use Rattle.psg_unify.proofs.Laws.{releasable}
use Rattle.psg_unify.proofs.Composed.{fits_nothing, known_where}
use Rattle.psg_unify.proofs.join.JoinPool.join.Goals as goal

pub join_in-requires-clause-fits : goal.join_in-requires-clause-fits
join_in-requires-clause-fits c = fits_nothing c.args.sig.now c.self.inside.pool c.self.invariant.0 c.self.invariant.1

pub release-requires : goal.release-requires
release-requires c = releasable c.self.inside.pool c.join_in.new.pool c.mark-mark.result c.mark-mark.ensures.releasable c.mark-mark.ensures.cells c.mark-mark.ensures.bindings
    (known_where c.in_ok-joined.joined c.in-Some.row c.in-Some.is c.in_ok-joined.ensures.grown)
