use Rattle.std.proofs.Common.{ap}
use Rattle.psg_recover.specs.Findings.{warning_at}
use Rattle.psg_recover.proofs.finding.warning.Goals as goal

pub returns : goal.returns
returns c = ap (warning_at c.args.byte) c.in_ok-message.ensures
