use Rattle.std.proofs.Common.{◌≡◌, true, take}
use Rattle.psg_relation.specs.Settling.{AreSettled}
use Rattle.psg_relation.proofs.settling.settled_pairs.Given as goal

abbrev pub invariant-loop-i : goal.invariant-loop-i
invariant-loop-i l = l.all ≡ true → AreSettled l.left l.right (take l.i l.pairs) true
