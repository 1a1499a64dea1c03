use Rattle.std.proofs.Common.{arith}
use Rattle.psg_pointing.proofs.Tellings.{none_before}
use Rattle.psg_pointing.proofs.pointing.end_before.Goals as goal

pub returns : goal.returns
returns c = none_before c.args.tokens.now c.args.number (omega arith)
