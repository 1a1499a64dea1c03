use Rattle.std.proofs.Common.{◌≡◌, take}
use Rattle.psg_relation.specs.Heavy.{highest_in}
use Rattle.psg_relation.proofs.weighing.row_above.Given as goal

abbrev pub invariant-loop-term : goal.invariant-loop-term
invariant-loop-term l = l.above ≡ highest_in (take l.term-index l.row)
