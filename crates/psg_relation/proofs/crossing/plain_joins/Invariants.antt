use Rattle.std.proofs.Common.{take}
use Rattle.psg_relation.specs.Joining.{all_pairs, AreJoined}
use Rattle.psg_relation.proofs.crossing.plain_joins.Given as goal

abbrev pub invariant-loop-one : goal.invariant-loop-one
invariant-loop-one l = AreJoined l.sig l.pairs l.keep (all_pairs (take l.one-index l.left) l.right) l.made.items
