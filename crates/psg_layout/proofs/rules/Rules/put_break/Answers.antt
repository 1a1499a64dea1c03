use Rattle.psg_layout.proofs.rules.Rules.put_break.Goals as goal

pub returns-clause-breaks : goal.returns-clause-breaks
returns-clause-breaks c = λ o k. c.in_ok-insert.ensures.updates.0 (o, k)
