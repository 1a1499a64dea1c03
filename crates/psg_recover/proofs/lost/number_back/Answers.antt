use Rattle.std.proofs.Common.{ap, ◌∙◌}
use Rattle.psg_recover.specs.Lost.{element_back}
use Rattle.psg_recover.proofs.LostLaws.{hole_back, list_back, op_back}
use Rattle.psg_recover.proofs.lost.number_back.Goals as goal

pub returns-in-List : goal.returns-in-List
returns-in-List c =
    let def = c.args.known.definition.now in
    c.element_back.ensures ∙ ap (element_back def c.args.number) c.as_slice.ensures
    ∙ list_back def _ c.in-List.list c.in-List.elements c.in-List.unfinished _ c.args.number c.in-List.is c.shape.ensures

pub returns-in-Op : goal.returns-in-Op
returns-in-Op c = op_back c.args.known.definition.now _ c.in-Op.op c.in-Op.parts _ c.args.number c.in-Op.is c.shape.ensures

pub returns-in-Hole : goal.returns-in-Hole
returns-in-Hole c = hole_back c.args.known.definition.now _ c.in-Hole.phylum _ c.args.number c.in-Hole.is c.shape.ensures
