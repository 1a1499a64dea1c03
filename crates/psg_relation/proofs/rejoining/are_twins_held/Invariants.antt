use Rattle.std.proofs.Common.{take}
use Rattle.psg_relation.specs.Selecting.{twins}
use Rattle.psg_relation.proofs.HeldJoins.{SoFar}
use Rattle.psg_relation.proofs.rejoining.are_twins_held.Given as goal

abbrev pub invariant-loop-row : goal.invariant-loop-row
invariant-loop-row l = SoFar l.sig l.pairs l.keep l.kept (twins (take l.row-index l.rows))
