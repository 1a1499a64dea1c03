use Rattle.psg_links.proofs.Agree.{names_agree}
use Rattle.psg_links.proofs.laws.names_agree.Goals as goal

pub returns : goal.returns
returns c = names_agree c.args._definition.now
