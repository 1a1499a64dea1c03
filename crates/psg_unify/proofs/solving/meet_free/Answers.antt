use Rattle.std.proofs.Common.{sym}
use Rattle.psg_unify.proofs.SolvingSteps.{stays_swap}
use Rattle.psg_unify.proofs.Climbs.{end_within, going_swap}
use Rattle.psg_unify.proofs.solving.meet_free.Goals as goal

pub height_of-requires : goal.height_of-requires
height_of-requires c = record { from = c.requires.y_end.from; within = end_within c.args.pool.now c.args.classes.now c.args.y c.requires.climbing c.requires.y_end }

pub height_of-requires-2 : goal.height_of-requires-2
height_of-requires-2 c = record { from = c.requires.x_end.from; within = end_within c.args.pool.now c.args.classes.now c.args.x c.requires.climbing c.requires.x_end }

pub bind_free-requires-clause-other : goal.bind_free-requires-clause-other
bind_free-requires-clause-other c = λ e. c.requires.other (sym e)

pub returns-then-height_of-clause-bound : goal.returns-then-height_of-clause-bound
returns-then-height_of-clause-bound c = λ left.
    stays_swap c.args.pool.now c.bind_free.new.pool c.args.classes.now c.bind_free.new.classes left left c.args.x c.args.y (c.in_ok-bind_free.ensures.bound left)

pub returns-then-height_of-clause-closer : goal.returns-then-height_of-clause-closer
returns-then-height_of-clause-closer c = λ left going. c.in_ok-bind_free.ensures.closer left (going_swap c.args.pool.now c.args.classes.now c.args.x c.args.y left going)
