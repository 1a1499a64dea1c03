use Rattle.psg_specimen.proofs.Stages.{not_both}
use Rattle.psg_specimen.proofs.laws.accepted_or_refused.Goals as goal

pub returns : goal.returns
returns c = not_both c.args.definition.now c.requires
