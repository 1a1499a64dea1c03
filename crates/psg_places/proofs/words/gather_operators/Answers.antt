use Rattle.std.proofs.Common.{◌∙◌, ◌++◌, List, ap}
use Rattle.psg_grammar.specs.declared.types.Item.{Item}
use Rattle.psg_grammar.specs.WellFormed.{words_in}
use Rattle.psg_places.proofs.Gathered.{operator_gathered, operators_gathered}
use Rattle.psg_places.proofs.words.gather_operators.Goals as goal

pub loop-operator-preserved : goal.loop-operator-preserved
loop-operator-preserved c =
    operator_gathered c.args.operators.now c.loop-operator.operator-index c.operator-item.result c.args.found.now.items c.loop-operator.found.items
    c.gather_items.new.found.items c.loop-operator-test.true c.operator-item.is c.loop-operator.invariant (c.in_ok-gather_items.ensures
    ∙ ap (λ (is : List Item). c.loop-operator.found.items ++ words_in is) c.as_slice.ensures)

pub returns : goal.returns
returns c =
    operators_gathered c.args.operators.now c.loop-operator.operator-index c.args.found.now.items c.loop-operator.found.items c.loop-operator-test.false
    c.loop-operator.invariant
