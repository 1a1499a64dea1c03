use Rattle.psg_terms.proofs.Weights.{symbols-step}
use Rattle.psg_terms.proofs.term.symbols_with.Goals as goal

pub loop-arg-preserved : goal.loop-arg-preserved
loop-arg-preserved c =
    symbols-step _ c.loop-arg.symbols c.symbols.result _ c.args.args.now c.loop-arg.arg-index c.arg-item.result c.loop-arg.invariant c.symbols.ensures c.saturating_add-symbols.ensures c.loop-arg-test.true c.arg-item.is
