use Rattle.psg_explain.proofs.KindLaws.{cell_stage, end_stage, node_stage}
use Rattle.psg_explain.proofs.staging.kinds_at.Goals as goal

pub returns-in_ok-kinds-in-Node : goal.returns-in_ok-kinds-in-Node
returns-in_ok-kinds-in-Node c = λ s is. node_stage c.args.definition.now c.args.stage.now s is c.in_ok-kinds-in-Node.kinds.items c.in-Node.tree c.in-Node.is c.in_ok-kinds-in-Node.ensures

pub returns-in_ok-kinds-in-End : goal.returns-in_ok-kinds-in-End
returns-in_ok-kinds-in-End c = λ s is. end_stage c.args.definition.now c.args.stage.now s is c.in_ok-kinds-in-End.kinds.items c.in-End.list c.in-End.unfinished c.in-End.is c.in_ok-kinds-in-End.ensures

pub returns-in_ok-kinds-in-Cell : goal.returns-in_ok-kinds-in-Cell
returns-in_ok-kinds-in-Cell c = λ s is. cell_stage c.args.definition.now c.args.stage.now s is c.in_ok-kinds-in-Cell.kinds.items c.in-Cell.list c.in-Cell.is c.in_ok-kinds-in-Cell.ensures
