use Rattle.psg_session.proofs.ByCompletions.{accepted_forms}
use Rattle.psg_session.proofs.laws.forms_are_kept.Goals as goal

pub returns : goal.returns
returns c = accepted_forms c.args.definition.now c.requires.sound c.requires.accepted
