use Rattle.std.proofs.Common.{length}
use Rattle.psg_scope.proofs.joining.+header_of.Given as goal

abbrev pub decreases-header_of : goal.decreases-header_of
decreases-header_of l = length l.positions.now
