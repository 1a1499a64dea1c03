use Rattle.psg_recover.proofs.LeftLaws.{leaves_trees}
use Rattle.psg_recover.proofs.laws.leaves_trees.Goals as goal

pub returns : goal.returns
returns c = leaves_trees c.args._definition.now c.requires
