use Rattle.psg_keymap.proofs.TableLaws.{list_open, op_open}
use Rattle.psg_keymap.proofs.nodes.is_unfinished.Goals as goal

pub returns-in-Op : goal.returns-in-Op
returns-in-Op c = op_open c.shape.result.now c.args.node.now c.shape.ensures c.in-Op.op c.in-Op.parts c.in-Op.is

pub returns-in-List : goal.returns-in-List
returns-in-List c =
    list_open c.shape.result.now c.args.node.now c.shape.ensures c.in-List.list c.in-List.elements
    c.in-List.unfinished c.in-List.is
