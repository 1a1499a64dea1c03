use Rattle.psg_class.proofs.LeastLevels.{same_levels}
use Rattle.psg_class.proofs.laws.same_levels.Goals as goal

pub returns : goal.returns
returns c = same_levels c.args._operator.now
