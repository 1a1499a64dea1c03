use Rattle.std.proofs.Common.{length}
use Rattle.psg_self.proofs.language.+are_operators.Given as goal

abbrev pub decreases-are_operators : goal.decreases-are_operators
decreases-are_operators l = length l.operators.now
