use Rattle.std.proofs.Common.{take}
use Rattle.psg_relation.specs.Choices.{picked}
use Rattle.psg_relation.specs.Joining.{IsCrossed}
use Rattle.psg_relation.proofs.crossing.with_places.Given as goal

abbrev pub invariant-loop-i : goal.invariant-loop-i
invariant-loop-i l = IsCrossed l.sig l.pairs l.keep l.one (picked l.right (take l.i l.places)) l.initial.more.items l.more.items
