use Rattle.std.proofs.Common.{◌∙◌, ap}
use Rattle.psg_modes.specs.Wrong.{names_in}
use Rattle.psg_modes.proofs.NameLaws.{list_names, op_names}
use Rattle.psg_modes.proofs.wrong.names_of.Goals as goal

pub returns-in_ok-names-in-Op : goal.returns-in_ok-names-in-Op
returns-in_ok-names-in-Op c =
    op_names c.shape.result.now c.args.node.now c.shape.ensures _ c.in-Op.op c.in-Op.parts c.in-Op.is
    (c.in_ok-names-in-Op.ensures ∙ ap names_in c.as_slice.ensures)

pub returns-in-List : goal.returns-in-List
returns-in-List c =
    c.new.ensures.items
    ∙ list_names c.shape.result.now c.args.node.now c.shape.ensures c.in-List.list c.in-List.elements
    c.in-List.unfinished c.in-List.is
