use Rattle.psg_class.proofs.Law.{only_trees}
use Rattle.psg_class.proofs.laws.one_tree.Goals as goal

pub returns : goal.returns
returns c = only_trees c.args._definition.now c.requires
