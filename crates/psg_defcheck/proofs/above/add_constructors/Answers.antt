use Rattle.psg_defcheck.proofs.NewLaws.{constructors-step}
use Rattle.psg_defcheck.proofs.above.add_constructors.Goals as goal

pub loop-constructor-preserved : goal.loop-constructor-preserved
loop-constructor-preserved c =
    constructors-step c.args.names.now c.loop-constructor.names c.insert.new.self c.args.constructors.now c.loop-constructor.constructor-index c.constructor-item.result c.as_str.result.now
    c.loop-constructor.invariant c.loop-constructor-test.true c.constructor-item.is c.as_str.ensures c.in_ok-insert.ensures.last
