use Rattle.psg_unify.proofs.circles.walk.Goals as goal

pub next_visit-requires : goal.next_visit-requires
next_visit-requires c = (c.args.pool.now, c.loop-id.invariant)

pub visit-requires : goal.visit-requires
visit-requires c = record { walking = c.in-Some.ensures.some c.args.pool.now c.loop-id.invariant; other = c.in-Some.ensures.other }

pub returns-clause-yes : goal.returns-clause-yes
returns-clause-yes c = λ _. c.in_default.ensures.none c.args.pool.now c.loop-id.invariant
