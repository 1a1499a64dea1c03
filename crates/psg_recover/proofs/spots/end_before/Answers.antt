use Rattle.std.proofs.Common.{arith}
use Rattle.psg_recover.proofs.SpotLaws.{none_before}
use Rattle.psg_recover.proofs.spots.end_before.Goals as goal

pub returns : goal.returns
returns c = none_before c.args.tokens.now c.args.number (omega arith)
