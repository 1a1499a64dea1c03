use Rattle.std.proofs.Common.{ap, ◌∙◌}
use Rattle.psg_places.specs.Places.{is_hole}
use Rattle.psg_places.proofs.OpeningLaws.{at_list, at_op, list_is_no_hole, op_is_no_hole}
use Rattle.psg_places.proofs.counting.is_hole.Goals as goal

pub returns-in-Op : goal.returns-in-Op
returns-in-Op c = op_is_no_hole c.in-Op.op c.in-Op.parts ∙ ap is_hole (at_op _ c.in-Op.op c.in-Op.parts _ c.in-Op.is c.shape.ensures)

pub returns-in-List : goal.returns-in-List
returns-in-List c = list_is_no_hole c.in-List.list c.in-List.elements c.in-List.unfinished ∙ ap is_hole (at_list _ c.in-List.list c.in-List.elements c.in-List.unfinished _ c.in-List.is c.shape.ensures)
