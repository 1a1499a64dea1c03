use Rattle.std.proofs.Common.{take}
use Rattle.psg_relation.specs.Joining.{IsCrossed}
use Rattle.psg_relation.proofs.crossing.with_joins.Given as goal

abbrev pub invariant-loop-other : goal.invariant-loop-other
invariant-loop-other l = IsCrossed l.sig l.pairs l.keep l.one (take l.other-index l.right) l.initial.more.items l.more.items
