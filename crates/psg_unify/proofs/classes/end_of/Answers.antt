use Rattle.std.proofs.Common.{arith}
use Rattle.psg_unify.specs.Valuations.{stays}
use Rattle.psg_unify.proofs.SolvingSteps.{follows_step, step_there}
use Rattle.psg_unify.proofs.classes.end_of.Goals as goal

pub loop-next-init : goal.loop-next-init
loop-next-init c = (c.requires.from, c.requires.among, λ apart linked. stays c.args.from)

pub step-requires : goal.step-requires
step-requires c = record { there = c.loop-next.invariant.1; from = c.loop-next.invariant.0; count = c.requires.climbing.count }

pub loop-next-preserved : goal.loop-next-preserved
loop-next-preserved c = (
  (c.requires.climbing.climbs c.loop-next.id c.in-Some.next c.loop-next.invariant.0 c.in-Some.ensures.some).0,
  step_there c.args.pool.now c.args.classes.now c.loop-next.id c.in-Some.next c.mark-mark.ensures.sound c.requires.there c.in-Some.ensures.some,
  λ apart linked. follows_step c.args.pool.now c.args.classes.now apart c.args.from c.loop-next.id c.in-Some.next linked c.in-Some.ensures.some (c.loop-next.invariant.2 apart linked),
)

pub loop-next-smaller : goal.loop-next-smaller
loop-next-smaller c =
    let up = (c.requires.climbing.climbs c.loop-next.id c.in-Some.next c.loop-next.invariant.0 c.in-Some.ensures.some).1 in
    let most = c.requires.climbing.bounded c.in-Some.next in
    omega (arith, up, most)
