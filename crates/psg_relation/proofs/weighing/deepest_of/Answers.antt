use Rattle.std.proofs.Common.{refl}
use Rattle.psg_relation.specs.Heavy.{deepest_in, deepest_of}
use Rattle.psg_relation.proofs.Weights.{max_step}
use Rattle.psg_relation.proofs.weighing.deepest_of.Goals as goal

pub loop-row-preserved : goal.loop-row-preserved
loop-row-preserved c =
    max_step deepest_of deepest_in refl (λ _ _. refl) _ c.loop-row.depth c.depth.result _ c.args.rows.now c.loop-row.row-index c.row-item.result c.loop-row.invariant
    c.depth.ensures c.max-depth.ensures c.loop-row-test.true c.row-item.is
