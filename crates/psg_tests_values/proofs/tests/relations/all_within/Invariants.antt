use Rattle.std.proofs.Common.{take}
use Rattle.psg_relation.specs.Choices.{AllWithin}
use Rattle.psg_tests_values.proofs.tests.relations.all_within.Given as goal

abbrev pub invariant-loop-row : goal.invariant-loop-row
invariant-loop-row l = AllWithin (take l.row-index l.rows) l.keep
