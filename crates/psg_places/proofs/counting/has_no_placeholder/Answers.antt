use Rattle.std.proofs.Common.{ap, ◌∙◌}
use Rattle.psg_places.specs.Places.{has_no_placeholder}
use Rattle.psg_places.proofs.OpeningLaws.{at_list, at_op, list_fixed, op_fixed}
use Rattle.psg_places.proofs.counting.has_no_placeholder.Goals as goal

pub returns-in-Op : goal.returns-in-Op
returns-in-Op c =
    c.declaring_operator.ensures ∙ op_fixed c.args.keeping.definition.now c.in-Op.op c.in-Op.parts
    ∙ ap (has_no_placeholder c.args.keeping.definition.now) (at_op _ c.in-Op.op c.in-Op.parts _ c.in-Op.is c.shape.ensures)

pub returns-in-List : goal.returns-in-List
returns-in-List c =
    list_fixed c.args.keeping.definition.now c.in-List.list c.in-List.elements c.in-List.unfinished
    ∙ ap (has_no_placeholder c.args.keeping.definition.now) (at_list _ c.in-List.list c.in-List.elements c.in-List.unfinished _ c.in-List.is c.shape.ensures)
