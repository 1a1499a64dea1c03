use Rattle.std.proofs.Common.{take}
use Rattle.std.specs.List.{AllByRecursion}
use Rattle.psg_tree.specs.Reaching.{chain_phyla, IsClosedOperator}
use Rattle.psg_tree.proofs.reach.operators_step.Given as goal

abbrev pub invariant-loop-operator : goal.invariant-loop-operator
invariant-loop-operator l = AllByRecursion (IsClosedOperator l.definition (chain_phyla l.found)) (take l.operator-index l.operators)
