use Rattle.std.proofs.Common.{subst}
use Rattle.psg_relation.specs.Settling.{IsSettled}
use Rattle.psg_relation.proofs.narrowing.is_equal.Goals as goal

pub returns-in-Some : goal.returns-in-Some
returns-in-Some c = λ t. subst (IsSettled c.args.a.now c.args.b.now) t c.in-Some.ensures
