use Rattle.std.proofs.Common.{take}
use Rattle.psg_terms.specs.Kept.{numbers_of}
use Rattle.psg_relation.specs.Choices.{AllHaveSorts}
use Rattle.psg_tests_values.proofs.tests.relations.all_sorted.Given as goal

abbrev pub invariant-loop-row : goal.invariant-loop-row
invariant-loop-row l = AllHaveSorts l.sig (take l.row-index l.rows) (numbers_of l.sorts)
