use Rattle.psg_run.proofs.WindowNodes.{windows_stand}
use Rattle.psg_run.proofs.laws.windows_stand_at_nodes.Goals as goal

pub returns : goal.returns
returns c = windows_stand c.args.definition.now c.requires.sound c.requires.accepted
