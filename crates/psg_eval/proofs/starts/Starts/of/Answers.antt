use Rattle.std.proofs.Common.{refl}
use Rattle.psg_eval.proofs.starts.Starts.of.Goals as goal

pub returns : goal.returns
returns c = record { holes = c.in_ok-holes.ensures; lists = c.in_ok-lists.ensures; operators = c.in_ok-operators.ensures; unknown = refl }
