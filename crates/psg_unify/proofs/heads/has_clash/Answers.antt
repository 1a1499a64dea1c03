use Rattle.psg_unify.proofs.Clashes.{rows_differ}
use Rattle.psg_unify.proofs.heads.has_clash.Goals as goal

pub returns-then-is_pair_clash : goal.returns-then-is_pair_clash
returns-then-is_pair_clash c = λ _. rows_differ c.args.left.now c.args.right.now c.args.pairs.now c.loop-i.i (0, 0) c.loop-i-test.true (c.is_pair_clash.ensures c.if-is_pair_clash.true)
