use Rattle.psg_relation.proofs.Pairing.{settled_closed}
use Rattle.psg_relation.proofs.settling.settled.Goals as goal

pub returns : goal.returns
returns c = settled_closed c.args.a.now c.args.b.now c.same-equal.result (c.is_closed_term.ensures c.if-not-is_closed_term.false) (c.is_closed_term-2.ensures c.if-not-is_closed_term-2.false) c.same-equal.ensures
