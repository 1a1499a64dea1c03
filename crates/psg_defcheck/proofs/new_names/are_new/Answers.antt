use Rattle.std.proofs.lemmas.Bool.{false≢true}
use Rattle.psg_defcheck.proofs.NewLaws.{new-step, not-apart, not-once}
use Rattle.psg_defcheck.proofs.new_names.are_new.Goals as goal

pub returns-then-contains : goal.returns-then-contains
returns-then-contains c = λ before are. (
  λ t. absurd (false≢true t),
  λ h. absurd (not-apart c.args.names.now c.args.constructors.now c.loop-constructor.constructor-index c.constructor-item.result c.as_str-name.result.now c.contains.result c.loop-constructor-test.true c.constructor-item.is c.as_str-name.ensures
      c.if-contains.true c.contains.ensures before are h.1),
)

pub returns-then-contains-2 : goal.returns-then-contains-2
returns-then-contains-2 c = λ before are. (
  λ t. absurd (false≢true t),
  λ h. absurd (not-once c.args.names.now c.loop-constructor.seen c.args.constructors.now c.loop-constructor.constructor-index c.constructor-item.result c.as_str-name.result.now c.contains-in-loop-constructor.result c.loop-constructor.invariant
      c.loop-constructor-test.true c.constructor-item.is c.as_str-name.ensures c.if-contains-2.true c.contains-in-loop-constructor.ensures h.0),
)

pub loop-constructor-preserved : goal.loop-constructor-preserved
loop-constructor-preserved c =
    new-step c.args.names.now c.loop-constructor.seen c.insert.new.self c.args.constructors.now c.loop-constructor.constructor-index c.constructor-item.result c.as_str-name.result.now c.contains.result c.contains-in-loop-constructor.result
    c.loop-constructor.invariant c.loop-constructor-test.true c.constructor-item.is c.as_str-name.ensures c.if-contains.false c.contains.ensures c.if-contains-2.false c.contains-in-loop-constructor.ensures c.in_ok-insert.ensures.last
