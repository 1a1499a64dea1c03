use Rattle.psg_stop.proofs.Endable.{trees_by}
use Rattle.psg_stop.proofs.laws.trees.Goals as goal

pub returns : goal.returns
returns c = trees_by c.args._definition.now c.requires
