use Rattle.psg_terms.specs.Weight.{symbols_of}
use Rattle.psg_relation.proofs.Weights.{sum_step}
use Rattle.psg_relation.proofs.weighing.row_weight.Goals as goal

pub loop-term-preserved : goal.loop-term-preserved
loop-term-preserved c =
    sum_step symbols_of _ c.loop-term.weight c.symbols.result _ c.args.row.now c.loop-term.term-index c.term-item.result c.loop-term.invariant c.symbols.ensures c.saturating_add-weight.ensures c.loop-term-test.true c.term-item.is
