use Rattle.std.proofs.Common.{ap, length, ◌∙◌}
use Rattle.psg_keymap.proofs.TableLaws.{list_count, op_count}
use Rattle.psg_keymap.proofs.nodes.count_of.Goals as goal

pub returns-in-Op : goal.returns-in-Op
returns-in-Op c = op_count c.shape.result.now c.args.node.now c.shape.ensures c.in-Op.op c.in-Op.parts c.in-Op.is

pub returns-in_ok-count-in-List : goal.returns-in_ok-count-in-List
returns-in_ok-count-in-List c =
    c.in_ok-count-in-List.ensures ∙ ap length c.as_slice.ensures
    ∙ list_count c.shape.result.now c.args.node.now c.shape.ensures c.in-List.list c.in-List.elements
    c.in-List.unfinished c.in-List.is
