use Rattle.psg_tree.proofs.Counts.{part_next}
use Rattle.psg_tree.proofs.sizes.operator_sizes.Goals as goal

pub loop-part-preserved : goal.loop-part-preserved
loop-part-preserved c =
    part_next c.args.parts.now c.loop-part.part-index c.part-item.result c.loop-part.sizes c.with_part-sizes.result
    c.loop-part-test.true c.part-item.is c.with_part-sizes.ensures c.loop-part.invariant
