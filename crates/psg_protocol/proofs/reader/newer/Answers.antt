use Rattle.psg_protocol.proofs.WalkLaws.{newer_is}
use Rattle.psg_protocol.proofs.reader.newer.Goals as goal

pub returns : goal.returns
returns c = newer_is c.args.kept c.args.old c.unwrap_or.result c.unwrap_or.ensures
