use Rattle.std.proofs.Common.{reverse, subst, arith}
use Rattle.psg_unify.specs.Climbing.{IsGoing}
use Rattle.psg_unify.proofs.Climbs.{going_rest, going_first, going_second}
use Rattle.psg_unify.proofs.SolvingSteps.{under_begins, under_there, under_dropped, under_done, next_here, top_equation}
use Rattle.psg_unify.proofs.solving.next_apart.Goals as goal

pub loop-pair-init : goal.loop-pair-init
loop-pair-init c = (under_begins c.args.pool.now c.args.classes.now (reverse c.args.left.now.items), c.requires.going)

pub end_of-x-requires : goal.end_of-x-requires
end_of-x-requires c =
    let there = under_there c.args.pool.now c.args.pool.now c.args.classes.now c.args.classes.now (reverse c.args.left.now.items) c.loop-pair.left.items c.pop.new.self.items c.in-Some.pair c.in-Some.ensures.items
    c.requires.solving c.loop-pair.invariant.0 in
    let going = subst (IsGoing c.args.pool.now c.args.classes.now) (top_equation c.loop-pair.left.items c.pop.new.self.items c.in-Some.pair c.in-Some.ensures.items) c.loop-pair.invariant.1 in
    record { from = (going_first c.args.pool.now c.args.classes.now c.in-Some.pair (reverse c.pop.new.self.items) going); among = there.0.0; there = there.1; climbing = going.climbing }

pub end_of-y-requires : goal.end_of-y-requires
end_of-y-requires c =
    let there = under_there c.args.pool.now c.args.pool.now c.args.classes.now c.args.classes.now (reverse c.args.left.now.items) c.loop-pair.left.items c.pop.new.self.items c.in-Some.pair c.in-Some.ensures.items
    c.requires.solving c.loop-pair.invariant.0 in
    let going = subst (IsGoing c.args.pool.now c.args.classes.now) (top_equation c.loop-pair.left.items c.pop.new.self.items c.in-Some.pair c.in-Some.ensures.items) c.loop-pair.invariant.1 in
    record { from = (going_second c.args.pool.now c.args.classes.now c.in-Some.pair (reverse c.pop.new.self.items) going); among = there.0.1; there = there.1; climbing = going.climbing }

pub returns-then-x-y-clause-some : goal.returns-then-x-y-clause-some
returns-then-x-y-clause-some c =
    next_here c.args.pool.now c.args.classes.now (reverse c.args.left.now.items) c.loop-pair.left.items c.pop.new.self.items c.in-Some.pair c.end_of-x.result c.end_of-y.result c.in-Some.ensures.items c.requires.solving
    c.end_of-x.ensures.follows c.end_of-y.ensures.follows c.end_of-x.ensures.end c.end_of-y.ensures.end c.if-x-y.true c.loop-pair.invariant.1 c.loop-pair.invariant.0

pub loop-pair-preserved : goal.loop-pair-preserved
loop-pair-preserved c = (
  under_dropped c.args.pool.now c.args.classes.now (reverse c.args.left.now.items) c.loop-pair.left.items c.pop.new.self.items c.in-Some.pair c.end_of-x.result c.end_of-y.result c.in-Some.ensures.items
      c.end_of-x.ensures.follows c.end_of-y.ensures.follows c.end_of-x.ensures.end.there c.end_of-y.ensures.end.there c.if-x-y.false c.loop-pair.invariant.0,
  going_rest c.args.pool.now c.args.classes.now c.in-Some.pair (reverse c.pop.new.self.items)
      (subst (IsGoing c.args.pool.now c.args.classes.now) (top_equation c.loop-pair.left.items c.pop.new.self.items c.in-Some.pair c.in-Some.ensures.items) c.loop-pair.invariant.1),
)

pub returns-clause-none : goal.returns-clause-none
returns-clause-none c =
    under_done c.args.pool.now c.args.pool.now c.args.classes.now c.args.classes.now (reverse c.args.left.now.items) c.loop-pair.left.items (omega (arith, c.in_default.ensures.cases)) c.loop-pair.invariant.0
