use Rattle.std.proofs.Common.{◌∷◌, reverse}
use Rattle.psg_unify.proofs.SolvingSteps.{under_begins, under_can, under_next, under_step, under_none, under_nothing, more_both}
use Rattle.psg_unify.proofs.solving.solve.Goals as goal

pub loop-pair-init : goal.loop-pair-init
loop-pair-init c = (under_begins c.args.pool.now c.args.classes.now (reverse c.args.left.now.items), c.requires.going)

pub next_apart-requires : goal.next_apart-requires
next_apart-requires c = record {
  solving = under_can c.args.pool.now c.loop-pair.pool c.args.classes.now c.loop-pair.classes (reverse c.args.left.now.items) (reverse c.loop-pair.left.items) c.requires.solving c.loop-pair.invariant.0;
  going = c.loop-pair.invariant.1;
}

pub meet-requires : goal.meet-requires
meet-requires c = record {
  solving = c.in-Some.ensures.some.can;
  x_end = c.in-Some.ensures.some.first_end;
  y_end = c.in-Some.ensures.some.second_end;
  other = c.in-Some.ensures.some.other;
  going = c.in-Some.ensures.some.going;
}

pub returns-in_err-meet-clause-more : goal.returns-in_err-meet-clause-more
returns-in_err-meet-clause-more c = more_both c.args.pool.now c.loop-pair.pool c.meet.new.pool c.loop-pair.invariant.0.more c.in_err-meet.ensures.more

pub returns-then-not-branch-clause-no : goal.returns-then-not-branch-clause-no
returns-then-not-branch-clause-no c = λ _.
    under_none c.args.pool.now c.loop-pair.pool c.args.classes.now c.loop-pair.classes (reverse c.args.left.now.items) (c.in-Some.pair ∷ reverse c.next_apart.new.left.items)
    (under_next c.args.pool.now c.loop-pair.pool c.args.classes.now c.loop-pair.classes (reverse c.args.left.now.items) (reverse c.loop-pair.left.items) (reverse c.next_apart.new.left.items) c.in-Some.pair c.in-Some.ensures.some c.loop-pair.invariant.0)
    (c.in_ok-meet.ensures.no c.if-not-branch.true)

pub returns-then-not-branch-clause-more : goal.returns-then-not-branch-clause-more
returns-then-not-branch-clause-more c = more_both c.args.pool.now c.loop-pair.pool c.meet.new.pool c.loop-pair.invariant.0.more c.in_ok-meet.ensures.more

pub loop-pair-preserved : goal.loop-pair-preserved
loop-pair-preserved c = (
  under_step c.args.pool.now c.loop-pair.pool c.meet.new.pool c.args.classes.now c.loop-pair.classes c.meet.new.classes (reverse c.args.left.now.items)
      (c.in-Some.pair ∷ reverse c.next_apart.new.left.items) (reverse c.meet.new.left.items) c.in_ok-meet.ensures.base c.in_ok-meet.ensures.more (c.in_ok-meet.ensures.yes c.if-not-branch.false)
      (under_next c.args.pool.now c.loop-pair.pool c.args.classes.now c.loop-pair.classes (reverse c.args.left.now.items) (reverse c.loop-pair.left.items) (reverse c.next_apart.new.left.items) c.in-Some.pair c.in-Some.ensures.some c.loop-pair.invariant.0),
  (c.in_ok-meet.ensures.closer c.if-not-branch.false).going,
)

pub loop-pair-smaller : goal.loop-pair-smaller
loop-pair-smaller c = (c.in_ok-meet.ensures.closer c.if-not-branch.false).fewer

pub returns-clause-yes : goal.returns-clause-yes
returns-clause-yes c = λ _.
    under_nothing c.args.pool.now c.loop-pair.pool c.args.classes.now c.loop-pair.classes (reverse c.args.left.now.items) (reverse c.loop-pair.left.items) c.in_default.ensures.none c.loop-pair.invariant.0

pub returns-clause-more : goal.returns-clause-more
returns-clause-more c = c.loop-pair.invariant.0.more
