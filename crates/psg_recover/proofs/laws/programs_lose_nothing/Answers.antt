use Rattle.psg_recover.proofs.LosesLaws.{programs_lose_nothing}
use Rattle.psg_recover.proofs.laws.programs_lose_nothing.Goals as goal

pub returns : goal.returns
returns c = programs_lose_nothing c.args._definition.now c.requires.can_end c.requires.class
