use Rattle.psg_run.proofs.LiveLines.{has_replies_alike}
use Rattle.psg_run.proofs.laws.live_as_script.Goals as goal

pub returns : goal.returns
returns c = has_replies_alike c.args.definition.now
