use Rattle.std.proofs.Common.{refl, subst, arith}
use Rattle.std.proofs.lemmas.List.{take_all}
use Rattle.psg_terms.specs.Weight.{symbols_of, depth_of}
use Rattle.psg_relation.specs.Heavy.{deepest_in, IsMeasured}
use Rattle.psg_relation.proofs.Highest.{highest_step}
use Rattle.psg_relation.proofs.Weights.{sum_step, max_step}
use Rattle.psg_relation.proofs.weighing.measured.Goals as goal

pub loop-term-init : goal.loop-term-init
loop-term-init c = record { symbols_right = refl; depth_right = refl; above_right = refl }

pub loop-term-preserved : goal.loop-term-preserved
loop-term-preserved c =
    let i = c.loop-term.term-index in
    let before = c.loop-term.invariant in
    record {
      symbols_right = sum_step symbols_of _ c.loop-term.weight c.symbols.result _ c.args.row.now i c.term-item.result before.symbols_right c.symbols.ensures c.saturating_add-weight.ensures c.loop-term-test.true c.term-item.is;
      depth_right = max_step deepest_in depth_of refl (λ _ _. refl) _ c.loop-term.depth c.depth.result _ c.args.row.now i c.term-item.result before.depth_right c.depth.ensures c.max-depth.ensures c.loop-term-test.true c.term-item.is;
      above_right = highest_step c.loop-term.above c.above.result _ c.args.row.now i c.term-item.result before.above_right c.above.ensures c.max-above.ensures c.loop-term-test.true c.term-item.is;
    }

pub returns : goal.returns
returns c = subst (λ xs. IsMeasured xs c.loop-term.weight c.loop-term.depth c.loop-term.above) (take_all c.loop-term.term-index c.args.row.now (omega arith)) c.loop-term.invariant
