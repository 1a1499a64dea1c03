use Rattle.psg_session.proofs.ShownTold.{some_relations, some_shown}
use Rattle.psg_session.proofs.told_laws.some_rows.Goals as goal

pub returns-clause-own : goal.returns-clause-own
returns-clause-own c = some_relations c.args.definition.now c.requires

pub returns-clause-shown : goal.returns-clause-shown
returns-clause-shown c = some_shown c.args.definition.now c.requires
