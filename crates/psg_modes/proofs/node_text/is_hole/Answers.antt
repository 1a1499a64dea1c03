use Rattle.psg_keymap.proofs.TableLaws.{list_hole, op_hole}
use Rattle.psg_modes.proofs.node_text.is_hole.Goals as goal

pub returns-in-Op : goal.returns-in-Op
returns-in-Op c = op_hole c.shape.result.now c.args.node.now c.shape.ensures c.in-Op.op c.in-Op.parts c.in-Op.is

pub returns-in-List : goal.returns-in-List
returns-in-List c =
    list_hole c.shape.result.now c.args.node.now c.shape.ensures c.in-List.list c.in-List.elements
    c.in-List.unfinished c.in-List.is
