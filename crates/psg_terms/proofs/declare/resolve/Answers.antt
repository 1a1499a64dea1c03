use Rattle.std.proofs.Common.{sym}
use Rattle.psg_terms.specs.Kept.{numbers_of}
use Rattle.psg_terms.proofs.DeclareSteps.{missing-found, argument-step}
use Rattle.psg_terms.proofs.declare.resolve.Goals as goal

pub returns-in-None-clause-err : goal.returns-in-None-clause-err
returns-in-None-clause-err c = λ names k.
    missing-found names c.args.args.now c.loop-name.name-index c.name-item.result c.as_str.result.now c.in_ok-share-in-None.field-0 c.args.numbers.now (numbers_of c.loop-name.found.items) k
    (c.loop-name.invariant names k) c.loop-name-test.true c.name-item.is c.as_str.ensures (sym c.in-None.ensures.value) c.in_ok-share-in-None.ensures

pub loop-name-preserved : goal.loop-name-preserved
loop-name-preserved c = λ names k.
    argument-step names c.args.args.now c.loop-name.name-index c.name-item.result c.as_str.result.now (record { 0 = c.in-Some.number.now }) c.args.numbers.now c.loop-name.found.items c.push.new.self.items k
    (c.loop-name.invariant names k) c.loop-name-test.true c.name-item.is c.as_str.ensures c.in-Some.ensures.value c.in_ok-push-in-Some.ensures.items
