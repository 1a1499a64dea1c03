use Rattle.std.proofs.Common.{ap, ◌∙◌}
use Rattle.psg_unparse.specs.Rows.{is_below_level}
use Rattle.psg_unparse.proofs.Items.{operator-node, operator-list, operator-hole}
use Rattle.psg_unparse.proofs.nodes.is_below.Goals as goal

pub returns-in-Op : goal.returns-in-Op
returns-in-Op c = c.is_operator_below.ensures ∙ ap (λ o. is_below_level o c.args.wanted) (operator-node c.args.definition.now c.shape.result.now c.in-Op.op c.in-Op.parts c.args.tree.now c.in-Op.is c.shape.ensures)

pub returns-in-List : goal.returns-in-List
returns-in-List c = ap (λ o. is_below_level o c.args.wanted) (operator-list c.args.definition.now c.shape.result.now _ _ _ c.args.tree.now c.in-List.is c.shape.ensures)

pub returns-in-Hole : goal.returns-in-Hole
returns-in-Hole c = ap (λ o. is_below_level o c.args.wanted) (operator-hole c.args.definition.now c.shape.result.now _ c.args.tree.now c.in-Hole.is c.shape.ensures)
