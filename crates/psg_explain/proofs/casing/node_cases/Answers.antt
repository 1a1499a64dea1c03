use Rattle.std.proofs.Common.{ap, ◌∙◌}
use Rattle.psg_scope.specs.Headers.{keys}
use Rattle.psg_grammar.specs.Fragments.{operator}
use Rattle.psg_tree.specs.Shapes.{with_parts}
use Rattle.psg_explain.proofs.CasingLaws.{hole_cases_are, no_list_node, op_cases_are}
use Rattle.psg_explain.proofs.StagingLaws.{shape_hole, shape_list, shape_op}
use Rattle.psg_explain.proofs.casing.node_cases.Goals as goal

pub returns-in_ok-cases-in-Hole : goal.returns-in_ok-cases-in-Hole
returns-in_ok-cases-in-Hole c = λ node own.
    hole_cases_are c.args.definition.now c.in-Hole.phylum c.args.tree.now c.in_ok-cases-in-Hole.cases.items (shape_hole c.shape.result.now c.in-Hole.phylum c.args.tree.now c.in-Hole.is c.shape.ensures) c.in_ok-cases-in-Hole.ensures

pub returns-in_ok-cases-in-Op : goal.returns-in_ok-cases-in-Op
returns-in_ok-cases-in-Op c = λ node own.
    let f = c.args.tree.now in
    let o = c.in-Op.op in
    op_cases_are c.args.definition.now o c.as_slice.result.now f (keys c.args.keys.now) c.in_ok-cases-in-Op.cases.items
    (ap (with_parts (operator o)) c.as_slice.ensures ∙ shape_op c.shape.result.now o c.in-Op.parts f c.in-Op.is c.shape.ensures) c.in_ok-cases-in-Op.ensures own

pub returns-in-List : goal.returns-in-List
returns-in-List c = λ node own.
    absurd (no_list_node c.args.tree.now c.in-List.list c.in-List.elements c.in-List.unfinished
    (shape_list c.shape.result.now c.in-List.list c.in-List.elements c.in-List.unfinished c.args.tree.now c.in-List.is c.shape.ensures) node)
