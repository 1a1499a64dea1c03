use Rattle.psg_run.proofs.WindowEvents.{windows_plain}
use Rattle.psg_run.proofs.laws.windows_are_plain.Goals as goal

pub returns : goal.returns
returns c = windows_plain c.args.definition.now
