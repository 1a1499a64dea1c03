use Rattle.psg_session.proofs.WeightsTold.{tree_weights}
use Rattle.psg_session.proofs.told_laws.some_weights.Goals as goal

pub returns : goal.returns
returns c = tree_weights c.args.definition.now c.requires
