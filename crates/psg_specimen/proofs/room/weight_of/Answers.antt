use Rattle.psg_relation.proofs.Weights.{sum_step}
use Rattle.psg_specimen.specs.Work.{term_work}
use Rattle.psg_specimen.proofs.room.weight_of.Goals as goal

pub loop-term-preserved : goal.loop-term-preserved
loop-term-preserved c =
    sum_step term_work _ c.loop-term.weight c.term_work.result _ c.args.terms.now c.loop-term.term-index c.term-item.result c.loop-term.invariant
    c.term_work.ensures c.saturating_add-weight.ensures c.loop-term-test.true c.term-item.is
