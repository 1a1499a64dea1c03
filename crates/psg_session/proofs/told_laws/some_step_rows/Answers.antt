use Rattle.psg_session.proofs.StepsTold.{asked_relations, step_relations}
use Rattle.psg_session.proofs.told_laws.some_step_rows.Goals as goal

pub returns-clause-own : goal.returns-clause-own
returns-clause-own c = step_relations c.args.definition.now c.requires

pub returns-clause-asked : goal.returns-clause-asked
returns-clause-asked c = asked_relations c.args.definition.now c.requires
