use Rattle.psg_class.proofs.FormedLaws.{yields_are_trees}
use Rattle.psg_class.proofs.laws.yielded_is_well_formed.Goals as goal

pub returns : goal.returns
returns c = yields_are_trees c.args._definition.now
