use Rattle.psg_unify.proofs.SolvingSteps.{not_bound_here}
use Rattle.psg_unify.proofs.solving.meet_open.Goals as goal

pub unreachable-requires : goal.unreachable-requires
unreachable-requires c = not_bound_here c.args.pool.now c.args.y c.in-Bound.field-0 c.requires.y_end.unbound c.in-Bound.ensures.holds
