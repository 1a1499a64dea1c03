use Rattle.psg_session.proofs.ChangeReopen.{unfinished_by, no_end}
use Rattle.psg_session.proofs.changes.is_unfinished.Goals as goal

pub returns-in-Some : goal.returns-in-Some
returns-in-Some c = unfinished_by c.args.definition.now c.args.tree.now c.in-Some.list c.in-Some.ensures.some

pub returns-in-None : goal.returns-in-None
returns-in-None c = no_end c.args.definition.now c.args.tree.now c.in-None.ensures.none
