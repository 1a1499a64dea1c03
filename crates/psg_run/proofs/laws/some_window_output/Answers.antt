use Rattle.psg_run.proofs.WindowOutputs.{has_some_window_output}
use Rattle.psg_run.proofs.laws.some_window_output.Goals as goal

pub returns : goal.returns
returns c = has_some_window_output c.args.definition.now c.requires.sound c.requires.words c.requires.accepted
