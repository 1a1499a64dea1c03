use Rattle.psg_completing.proofs.Levels.{under_none, under_some}
use Rattle.psg_completing.proofs.wanted.least_under.Goals as goal

pub returns-in-Some : goal.returns-in-Some
returns-in-Some c =
    under_some c.args.definition.now c.args.number c.args.node.now c.in-Some.op c.least_of.result c.op_of.result
    c.op_of.ensures c.in-Some.is c.least_of.ensures

pub returns-in-None : goal.returns-in-None
returns-in-None c =
    under_none c.args.definition.now c.args.number c.args.node.now c.op_of.result c.op_of.ensures c.in-None.is
