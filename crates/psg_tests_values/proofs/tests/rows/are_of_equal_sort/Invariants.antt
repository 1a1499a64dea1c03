use Rattle.std.proofs.Common.{take}
use Rattle.psg_terms.specs.Kept.{numbers_of}
use Rattle.psg_unify.specs.Pairs.{AreOfEqualSort}
use Rattle.psg_tests_values.proofs.tests.rows.are_of_equal_sort.Given as goal

abbrev pub invariant-loop-i : goal.invariant-loop-i
invariant-loop-i l = AreOfEqualSort (numbers_of l.left) (numbers_of l.right) (take l.i l.pairs)
