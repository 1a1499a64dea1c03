use Rattle.std.proofs.Common.{take}
use Rattle.psg_terms.specs.Signature.{Signature}
use Rattle.psg_unify.specs.Pairs.{AreJoinable}
use Rattle.psg_relation.specs.Narrowing.{ArePaired}
use Rattle.psg_relation.proofs.narrowing.paired.Given as goal

abbrev pub invariant-loop-i : goal.invariant-loop-i
invariant-loop-i l = (sig : Signature) → AreJoinable sig l.left l.right l.pairs → ArePaired sig l.left l.right (take l.i l.pairs) l.lefts.items l.rights.items
