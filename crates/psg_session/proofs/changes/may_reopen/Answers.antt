use Rattle.psg_session.proofs.ChangeReopen.{reopens_if, reopens_not, never_reopens}
use Rattle.psg_session.proofs.changes.may_reopen.Goals as goal

pub returns-then-list : goal.returns-then-list
returns-then-list c =
    reopens_if c.args.definition.now c.args.tree.now c.in-Some.list c.in-Some.ensures.some c.if-list.true

pub returns-else-list : goal.returns-else-list
returns-else-list c =
    reopens_not c.args.definition.now c.args.tree.now c.in-Some.list c.in-Some.ensures.some c.if-list.false

pub returns-in-None : goal.returns-in-None
returns-in-None c = never_reopens c.args.definition.now c.args.tree.now c.in-None.ensures.none
