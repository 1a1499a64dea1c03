use Rattle.psg_unparse.proofs.Rows.{cut_in}
use Rattle.psg_unparse.proofs.laws.cut_at_nodes.Goals as goal

pub returns : goal.returns
returns c = λ f. cut_in c.args._definition.now f
