use Rattle.psg_run.proofs.SomeOutput.{has_some_output}
use Rattle.psg_run.proofs.laws.some_output.Goals as goal

pub returns : goal.returns
returns c = has_some_output c.args.definition.now c.requires.sound c.requires.words c.requires.accepted
