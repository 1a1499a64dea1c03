use Rattle.psg_tree.proofs.NameTests.{operator_word, no_operator_word}
use Rattle.psg_tree.proofs.words.is_operator_word.Goals as goal

pub returns-then-is_item_word : goal.returns-then-is_item_word
returns-then-is_item_word c =
    operator_word c.args.operators.now c.loop-operator.operator-index c.operator-item.result c.args.text.now c.as_slice.result.now c.is_item_word.result
    c.loop-operator-test.true c.operator-item.is c.as_slice.ensures c.is_item_word.ensures c.if-is_item_word.true c.loop-operator.invariant

pub loop-operator-preserved : goal.loop-operator-preserved
loop-operator-preserved c =
    no_operator_word c.args.operators.now c.loop-operator.operator-index c.operator-item.result c.args.text.now c.as_slice.result.now c.is_item_word.result
    c.loop-operator-test.true c.operator-item.is c.as_slice.ensures c.is_item_word.ensures c.if-is_item_word.false c.loop-operator.invariant
