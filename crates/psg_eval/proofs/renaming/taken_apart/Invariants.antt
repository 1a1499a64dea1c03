use Rattle.psg_eval.proofs.MovedKeys.{IsApartUpTo}
use Rattle.psg_eval.proofs.renaming.taken_apart.Given as goal

abbrev pub invariant-loop-i : goal.invariant-loop-i
invariant-loop-i l = IsApartUpTo l.from l.to l.names l.made l.i
