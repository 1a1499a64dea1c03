use Rattle.psg_layout.proofs.PlainLaws.{plain_without_breaks}
use Rattle.psg_layout.proofs.laws.no_breaks.Goals as goal

pub returns : goal.returns
returns c = plain_without_breaks c.args._definition.now c.args._layout.now
