use Rattle.psg_run.proofs.EndingWell.{has_ended_well}
use Rattle.psg_run.proofs.laws.ends_well.Goals as goal

pub returns : goal.returns
returns c = has_ended_well
