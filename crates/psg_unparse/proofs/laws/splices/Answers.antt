use Rattle.psg_unparse.proofs.SpliceLaw.{spliced_at}
use Rattle.psg_unparse.proofs.laws.splices.Goals as goal

pub returns : goal.returns
returns c = λ f kind h path u v at fit. spliced_at c.args._definition.now f kind h path u v at fit
