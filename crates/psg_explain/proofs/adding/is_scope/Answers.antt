use Rattle.std.proofs.Common.{◌∙◌}
use Rattle.psg_explain.proofs.StagingLaws.{hole_scope, list_scope, op_scope, shape_hole, shape_list, shape_op}
use Rattle.psg_explain.proofs.adding.is_scope.Goals as goal

pub returns-in-Op : goal.returns-in-Op
returns-in-Op c =
    c.is_scope_operator-scope.ensures ∙ op_scope c.args.definition.now c.in-Op.op c.in-Op.parts c.args.tree.now (shape_op c.shape.result.now c.in-Op.op c.in-Op.parts c.args.tree.now c.in-Op.is c.shape.ensures)

pub returns-in-Hole : goal.returns-in-Hole
returns-in-Hole c = hole_scope c.args.definition.now c.in-Hole.phylum c.args.tree.now (shape_hole c.shape.result.now c.in-Hole.phylum c.args.tree.now c.in-Hole.is c.shape.ensures)

pub returns-in-List : goal.returns-in-List
returns-in-List c =
    list_scope c.args.definition.now c.in-List.list c.in-List.elements c.in-List.unfinished c.args.tree.now
    (shape_list c.shape.result.now c.in-List.list c.in-List.elements c.in-List.unfinished c.args.tree.now c.in-List.is c.shape.ensures)
