use Rattle.psg_run.proofs.WindowOutputs.{has_one_window_output}
use Rattle.psg_run.proofs.laws.one_window_output.Goals as goal

pub returns : goal.returns
returns c = has_one_window_output c.args.definition.now c.requires.sound c.requires.class
