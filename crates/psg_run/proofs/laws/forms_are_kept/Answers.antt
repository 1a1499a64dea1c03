use Rattle.psg_run.proofs.FormedRuns.{has_kept_forms}
use Rattle.psg_run.proofs.laws.forms_are_kept.Goals as goal

pub returns : goal.returns
returns c = has_kept_forms c.args.definition.now c.requires.sound c.requires.accepted
