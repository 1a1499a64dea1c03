use Rattle.std.proofs.Common.{◌∙◌}
use Rattle.psg_session.proofs.PrintLaws.{what_operator, what_list, what_hole}
use Rattle.psg_session.proofs.printing.what_of.Goals as goal

pub returns-in-Op : goal.returns-in-Op
returns-in-Op c =
    c.operator_name.ensures
    ∙ what_operator c.args.definition.now c.args.node.now c.shape.result.now c.in-Op.op _ c.shape.ensures c.in-Op.is

pub returns-in-List : goal.returns-in-List
returns-in-List c =
    what_list c.args.definition.now c.args.node.now c.shape.result.now _ _ _ c.shape.ensures c.in-List.is

pub returns-in-Hole : goal.returns-in-Hole
returns-in-Hole c =
    what_hole c.args.definition.now c.args.node.now c.shape.result.now _ c.shape.ensures c.in-Hole.is
