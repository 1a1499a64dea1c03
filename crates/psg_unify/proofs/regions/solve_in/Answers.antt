use Rattle.psg_unify.proofs.Solution.{may_go_back}
use Rattle.psg_unify.proofs.regions.solve_in.Goals as goal

pub release-requires : goal.release-requires
release-requires c = may_go_back c.args.pool.now c.put_and_solve.new.pool c.mark-mark.result c.mark-mark.ensures.cells c.mark-mark.ensures.bindings c.put_and_solve.ensures.extended c.mark-mark.ensures.releasable
