use Rattle.std.proofs.Common.{ap, ◌∙◌}
use Rattle.psg_unparse.specs.Plain.{level_in}
use Rattle.psg_unparse.proofs.Items.{operator-node, operator-list}
use Rattle.psg_unparse.proofs.splicing.level_of.Goals as goal

pub returns-in-Op : goal.returns-in-Op
returns-in-Op c = c.level_at.ensures ∙ ap level_in (operator-node c.args.definition.now c.shape.result.now c.in-Op.op c.in-Op.parts c.args.tree.now c.in-Op.is c.shape.ensures)

pub returns-in-List : goal.returns-in-List
returns-in-List c = ap level_in (operator-list c.args.definition.now c.shape.result.now _ _ _ c.args.tree.now c.in-List.is c.shape.ensures)
