use Rattle.std.proofs.Common.{take}
use Rattle.psg_relation.specs.Joining.{all_pairs}
use Rattle.psg_relation.proofs.HeldJoins.{SoFar}
use Rattle.psg_relation.proofs.rejoining.are_pairs_held.Given as goal

abbrev pub invariant-loop-one : goal.invariant-loop-one
invariant-loop-one l = SoFar l.sig l.pairs l.keep l.kept (all_pairs (take l.one-index l.left) l.right)
