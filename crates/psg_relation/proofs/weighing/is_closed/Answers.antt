use Rattle.psg_relation.proofs.Highest.{closed_test}
use Rattle.psg_relation.proofs.weighing.is_closed.Goals as goal

pub returns : goal.returns
returns c = closed_test c.above.result c.args.row.now c.above.ensures
