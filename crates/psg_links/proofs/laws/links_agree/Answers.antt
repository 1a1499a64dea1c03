use Rattle.psg_links.proofs.Agree.{links_agree}
use Rattle.psg_links.proofs.laws.links_agree.Goals as goal

pub returns : goal.returns
returns c = links_agree c.args._definition.now
