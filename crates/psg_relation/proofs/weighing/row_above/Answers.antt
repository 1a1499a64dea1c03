use Rattle.psg_relation.proofs.Highest.{highest_step}
use Rattle.psg_relation.proofs.weighing.row_above.Goals as goal

pub loop-term-preserved : goal.loop-term-preserved
loop-term-preserved c =
    highest_step c.loop-term.above c.above.result _ c.args.row.now c.loop-term.term-index c.term-item.result c.loop-term.invariant c.above.ensures c.max-above.ensures c.loop-term-test.true c.term-item.is
