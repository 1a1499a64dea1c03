use Rattle.std.proofs.Common.{take}
use Rattle.psg_relation.specs.Joining.{with_each}
use Rattle.psg_relation.proofs.HeldJoins.{SoFar}
use Rattle.psg_relation.proofs.rejoining.are_held_of.Given as goal

abbrev pub invariant-loop-other : goal.invariant-loop-other
invariant-loop-other l = SoFar l.sig l.pairs l.keep l.kept (with_each l.one (take l.other-index l.right))
