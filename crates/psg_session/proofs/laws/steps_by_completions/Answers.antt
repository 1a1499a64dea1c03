use Rattle.psg_session.proofs.ByCompletions.{accepted_steps}
use Rattle.psg_session.proofs.laws.steps_by_completions.Goals as goal

pub returns : goal.returns
returns c = accepted_steps c.args.definition.now c.requires.sound c.requires.accepted
