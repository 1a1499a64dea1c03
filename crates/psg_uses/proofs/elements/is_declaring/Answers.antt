use Rattle.std.proofs.Common.{ap, ◌∙◌}
use Rattle.psg_places.proofs.OpeningLaws.{at_list, at_op}
use Rattle.psg_uses.specs.Members as members
use Rattle.psg_uses.proofs.MemberLaws.{declaring_is, list_declares_not}
use Rattle.psg_uses.proofs.elements.is_declaring.Goals as goal

pub returns-in-Op : goal.returns-in-Op
returns-in-Op c =
    c.is_declaring_operator.ensures ∙ declaring_is c.args.known.definition.now c.in-Op.op c.in-Op.parts
    ∙ ap (members.is_declaring c.args.known.definition.now) (at_op _ c.in-Op.op c.in-Op.parts _ c.in-Op.is c.shape.ensures)

pub returns-in-List : goal.returns-in-List
returns-in-List c =
    list_declares_not c.args.known.definition.now c.in-List.list c.in-List.elements c.in-List.unfinished
    ∙ ap (members.is_declaring c.args.known.definition.now) (at_list _ c.in-List.list c.in-List.elements c.in-List.unfinished _ c.in-List.is c.shape.ensures)
