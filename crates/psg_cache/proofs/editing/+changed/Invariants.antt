use Rattle.std.proofs.Common.{length}
use Rattle.psg_cache.proofs.editing.+changed.Given as goal

abbrev pub decreases-changed : goal.decreases-changed
decreases-changed g l = length l.left.now
