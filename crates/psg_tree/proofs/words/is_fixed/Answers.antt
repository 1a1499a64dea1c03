use Rattle.psg_tree.proofs.NameTests.{fixed_operator_word, fixed_separator}
use Rattle.psg_tree.proofs.words.is_fixed.Goals as goal

pub returns-then-is_operator_word : goal.returns-then-is_operator_word
returns-then-is_operator_word c = fixed_operator_word c.args.definition.now c.args.text.now c.as_slice.result.now c.is_operator_word.result c.as_slice.ensures c.is_operator_word.ensures c.if-is_operator_word.true

pub returns-else-is_operator_word : goal.returns-else-is_operator_word
returns-else-is_operator_word c =
    fixed_separator c.args.definition.now c.args.text.now c.as_slice.result.now c.as_slice-else-is_operator_word.result.now c.is_operator_word.result c.is_separator.result
    c.as_slice.ensures c.as_slice-else-is_operator_word.ensures c.is_operator_word.ensures c.if-is_operator_word.false c.is_separator.ensures
