use Rattle.psg_keymap.proofs.TableLaws.{list_removed, op_removed}
use Rattle.psg_keymap.proofs.acts.is_removed.Goals as goal

pub returns-in-Op : goal.returns-in-Op
returns-in-Op c =
    op_removed c.shape.result.now c.args.node.now c.shape.ensures c.in-Op.op c.in-Op.parts c.in-Op.is
    c.args.definition.now c.declares.result c.declares.ensures

pub returns-in-List : goal.returns-in-List
returns-in-List c =
    list_removed c.shape.result.now c.args.node.now c.shape.ensures c.in-List.list c.in-List.elements
    c.in-List.unfinished c.in-List.is c.args.definition.now
