use Rattle.std.proofs.Common.{◌≡◌, ◌<◌, ◌^◌, length, take}
use Rattle.psg_terms.specs.Declarations.{constructor_names}
use Rattle.psg_tests_values.proofs.tests.signatures.are_few.Given as goal

abbrev pub invariant-loop-sort : goal.invariant-loop-sort
invariant-loop-sort l = (l.count ≡ length (constructor_names (take l.sort-index l.sorts))) × (l.count < 2 ^ 32)
