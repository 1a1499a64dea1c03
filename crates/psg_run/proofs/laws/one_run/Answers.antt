use Rattle.psg_run.proofs.OneArranged.{has_one_run}
use Rattle.psg_run.proofs.laws.one_run.Goals as goal

pub returns : goal.returns
returns c = has_one_run c.args.definition.now c.requires.sound c.requires.class
