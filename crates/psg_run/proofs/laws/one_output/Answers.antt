use Rattle.psg_run.proofs.OneOutput.{has_one_output}
use Rattle.psg_run.proofs.laws.one_output.Goals as goal

pub returns : goal.returns
returns c = has_one_output c.args.definition.now c.requires.sound c.requires.class
