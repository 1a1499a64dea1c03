use Rattle.psg_terms.proofs.Weights.{above-step}
use Rattle.psg_terms.proofs.term.above_with.Goals as goal

pub loop-arg-preserved : goal.loop-arg-preserved
loop-arg-preserved c =
    above-step c.loop-arg.above c.above.result _ c.args.args.now c.loop-arg.arg-index c.arg-item.result c.loop-arg.invariant c.above.ensures c.max-above.ensures c.loop-arg-test.true c.arg-item.is
