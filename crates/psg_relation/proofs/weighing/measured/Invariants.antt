use Rattle.std.proofs.Common.{take}
use Rattle.psg_relation.specs.Heavy.{IsMeasured}
use Rattle.psg_relation.proofs.weighing.measured.Given as goal

abbrev pub invariant-loop-term : goal.invariant-loop-term
invariant-loop-term l = IsMeasured (take l.term-index l.row) l.weight l.depth l.above
