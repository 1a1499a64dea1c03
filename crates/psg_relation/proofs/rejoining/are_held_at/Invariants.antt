use Rattle.std.proofs.Common.{take}
use Rattle.psg_relation.specs.Choices.{picked}
use Rattle.psg_relation.specs.Joining.{with_each}
use Rattle.psg_relation.proofs.HeldJoins.{SoFar}
use Rattle.psg_relation.proofs.rejoining.are_held_at.Given as goal

abbrev pub invariant-loop-i : goal.invariant-loop-i
invariant-loop-i l = SoFar l.sig l.pairs l.keep l.kept (with_each l.one (picked l.right (take l.i l.places)))
