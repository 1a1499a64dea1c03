use Rattle.psg_terms.proofs.Weights.{depth-step}
use Rattle.psg_terms.proofs.term.depth_with.Goals as goal

pub loop-arg-preserved : goal.loop-arg-preserved
loop-arg-preserved c =
    depth-step _ c.loop-arg.depth c.depth.result c.saturating_add.result _ c.args.args.now c.loop-arg.arg-index c.arg-item.result c.loop-arg.invariant c.depth.ensures c.saturating_add.ensures c.max-depth.ensures c.loop-arg-test.true c.arg-item.is
