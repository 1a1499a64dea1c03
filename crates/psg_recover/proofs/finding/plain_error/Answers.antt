use Rattle.std.proofs.Common.{ap}
use Rattle.psg_recover.specs.Findings.{error_at}
use Rattle.psg_recover.proofs.finding.plain_error.Goals as goal

pub returns : goal.returns
returns c = ap (error_at c.args.byte) c.in_ok-message.ensures
