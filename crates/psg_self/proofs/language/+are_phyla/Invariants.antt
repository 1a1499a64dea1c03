use Rattle.std.proofs.Common.{length}
use Rattle.psg_self.proofs.language.+are_phyla.Given as goal

abbrev pub decreases-are_phyla : goal.decreases-are_phyla
decreases-are_phyla l = length l.phyla.now
