use Rattle.std.proofs.Common.{ap, ◌∙◌}
use Rattle.psg_places.specs.Places.{phylum_of}
use Rattle.psg_places.proofs.OpeningLaws.{at_list, at_op, list_phylum, op_phylum}
use Rattle.psg_places.proofs.counting.phylum_at.Goals as goal

pub returns-in-Op : goal.returns-in-Op
returns-in-Op c =
    c.phylum_of.ensures ∙ op_phylum c.args.definition.now c.in-Op.op c.in-Op.parts
    ∙ ap (phylum_of c.args.definition.now) (at_op _ c.in-Op.op c.in-Op.parts _ c.in-Op.is c.shape.ensures)

pub returns-in-List : goal.returns-in-List
returns-in-List c =
    list_phylum c.args.definition.now c.in-List.list c.in-List.elements c.in-List.unfinished
    ∙ ap (phylum_of c.args.definition.now) (at_list _ c.in-List.list c.in-List.elements c.in-List.unfinished _ c.in-List.is c.shape.ensures)
