use Rattle.std.proofs.Common.{reverse}
use Rattle.psg_unify.proofs.SolvingSteps.{not_bound_here}
use Rattle.psg_unify.proofs.solving.meet.Goals as goal

pub unreachable-requires : goal.unreachable-requires
unreachable-requires c = not_bound_here c.args.pool.now c.args.x c.in-Bound.field-0 c.requires.x_end.unbound c.in-Bound.ensures.holds

pub meet_open-requires-clause-climbing : goal.meet_open-requires-clause-climbing
meet_open-requires-clause-climbing c = c.requires.going.climbing

pub returns-in_ok-meet_open-in-Free-clause-yes : goal.returns-in_ok-meet_open-in-Free-clause-yes
returns-in_ok-meet_open-in-Free-clause-yes c = λ _. c.in_ok-meet_open-in-Free.ensures.bound (reverse c.args.left.now.items)

pub returns-in_ok-meet_open-in-Free-clause-closer : goal.returns-in_ok-meet_open-in-Free-clause-closer
returns-in_ok-meet_open-in-Free-clause-closer c = λ _. c.in_ok-meet_open-in-Free.ensures.closer (reverse c.args.left.now.items) c.requires.going
