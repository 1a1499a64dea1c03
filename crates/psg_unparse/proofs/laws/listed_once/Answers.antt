use Rattle.psg_unparse.proofs.Listed.{listing}
use Rattle.psg_unparse.proofs.laws.listed_once.Goals as goal

pub returns : goal.returns
returns c = λ f kind h. listing c.args._definition.now f kind h
