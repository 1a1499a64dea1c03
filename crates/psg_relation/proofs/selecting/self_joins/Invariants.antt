use Rattle.std.proofs.Common.{take}
use Rattle.psg_relation.specs.Joining.{AreJoined}
use Rattle.psg_relation.specs.Selecting.{twins}
use Rattle.psg_relation.proofs.selecting.self_joins.Given as goal

abbrev pub invariant-loop-row : goal.invariant-loop-row
invariant-loop-row l = AreJoined l.sig l.pairs l.keep (twins (take l.row-index l.rows)) l.made.items
