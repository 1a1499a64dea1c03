use Rattle.psg_stop.proofs.Endable.{endable_by}
use Rattle.psg_stop.proofs.laws.endable.Goals as goal

pub returns : goal.returns
returns c = endable_by c.args._definition.now c.requires
