use Rattle.psg_run.proofs.refutation_texts.last_of.Goals as goal

pub returns : goal.returns
returns c = (c.in-Some.field-0-1.now, c.in-Some.ensures.cases.0)
