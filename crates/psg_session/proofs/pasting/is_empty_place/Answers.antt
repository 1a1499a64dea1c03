use Rattle.psg_session.proofs.ChangePaste.{empty_list, empty_other}
use Rattle.psg_session.proofs.pasting.is_empty_place.Goals as goal

pub returns-in-Some : goal.returns-in-Some
returns-in-Some c = empty_list c.args.definition.now c.args.tree.now c.in-Some.list c.in-Some.ensures.some

pub returns-in-None : goal.returns-in-None
returns-in-None c = empty_other c.args.definition.now c.args.tree.now c.in-None.ensures.none c.is_hole.result c.is_hole.ensures
