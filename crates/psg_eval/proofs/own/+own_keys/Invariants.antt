use Rattle.std.proofs.Common.{length}
use Rattle.psg_eval.proofs.own.+own_keys.Given as goal

abbrev pub decreases-own_keys : goal.decreases-own_keys
decreases-own_keys l = length l.positions.now
