use Rattle.std.proofs.Common.{arith}
use Rattle.psg_tests_values.proofs.ColumnSorts.{equal_more, equal_all}
use Rattle.psg_tests_values.proofs.tests.rows.are_of_equal_sort.Goals as goal

pub loop-i-preserved : goal.loop-i-preserved
loop-i-preserved c =
    equal_more c.args.left.now c.args.right.now c.args.pairs.now c.loop-i.i _ c.loop-i-test.true
    (omega arith) (omega arith) c.if-left-pair.false c.loop-i.invariant

pub returns : goal.returns
returns c = λ _. equal_all c.args.left.now c.args.right.now c.args.pairs.now c.loop-i.i (omega arith) c.loop-i.invariant
