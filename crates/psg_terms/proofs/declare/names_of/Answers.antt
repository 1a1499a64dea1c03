use Rattle.psg_terms.proofs.DeclareSteps.{named-step}
use Rattle.psg_terms.proofs.declare.names_of.Goals as goal

pub loop-sort-preserved : goal.loop-sort-preserved
loop-sort-preserved c =
    named-step c.args.sorts.now c.loop-sort.sort-index c.sort-item.result c.loop-sort.names.items c.push.new.self.items c.in_ok-name.name
    c.in_ok-push.ensures.items c.loop-sort.invariant c.in_ok-name.ensures c.loop-sort-test.true c.sort-item.is
