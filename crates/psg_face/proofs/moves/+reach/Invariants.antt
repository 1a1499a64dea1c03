use Rattle.std.proofs.Common.{length}
use Rattle.psg_face.proofs.moves.+reach.Given as goal

abbrev pub decreases-reach : goal.decreases-reach
decreases-reach l = length l.steps.now
