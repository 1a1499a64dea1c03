use Rattle.std.specs.Prelude.{sum_by}
use Rattle.psg_terms.specs.Weight.{symbols_of}
use Rattle.psg_relation.proofs.Weights.{sum_step}
use Rattle.psg_relation.proofs.weighing.weight_of.Goals as goal

pub loop-row-preserved : goal.loop-row-preserved
loop-row-preserved c =
    sum_step (sum_by symbols_of) _ c.loop-row.weight c.symbols.result _ c.args.rows.now c.loop-row.row-index c.row-item.result c.loop-row.invariant
    c.symbols.ensures c.saturating_add-weight.ensures c.loop-row-test.true c.row-item.is
