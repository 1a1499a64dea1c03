use Rattle.std.proofs.Common.{length}
use Rattle.psg_tree.proofs.places.+replace_below.Given as goal

abbrev pub decreases-replace_below : goal.decreases-replace_below
decreases-replace_below l = length l.steps.now
