use Rattle.std.proofs.Common.{subst}
use Rattle.psg_relation.specs.Settling.{AreSettled}
use Rattle.psg_relation.proofs.Unsolved.{settled_none}
use Rattle.psg_relation.proofs.joining.settled_row.Goals as goal

pub beside-requires-clause-settled : goal.beside-requires-clause-settled
beside-requires-clause-settled c = subst (AreSettled c.args.left.now c.args.right.now c.args.pairs.now) c.if-equal.true c.requires.settled

pub returns : goal.returns
returns c = settled_none c.args.sig.now c.args.left.now c.args.right.now c.args.pairs.now c.args.keep.now (subst (AreSettled c.args.left.now c.args.right.now c.args.pairs.now) c.if-equal.false c.requires.settled)
