use Rattle.std.proofs.Common.{◌^◌}
use Rattle.psg_tree.specs.Reaching.{chain_phyla}
use Rattle.psg_tree.proofs.Missing.{missing}
use Rattle.psg_tree.proofs.reach.+reaches.Given as goal

abbrev pub decreases-reaches : goal.decreases-reaches
decreases-reaches l = missing (2 ^ 32) (chain_phyla l.found.now)
