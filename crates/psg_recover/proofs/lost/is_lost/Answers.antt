use Rattle.std.proofs.Common.{◌∙◌}
use Rattle.psg_recover.proofs.LostLaws.{hole_lost, list_is_kept, op_is_kept}
use Rattle.psg_recover.proofs.lost.is_lost.Goals as goal

pub returns-in-Hole : goal.returns-in-Hole
returns-in-Hole c =
    c.declares.ensures ∙ hole_lost c.args.known.definition.now _ c.in-Hole.phylum _ c.in-Hole.is c.shape.ensures

pub returns-in-Op : goal.returns-in-Op
returns-in-Op c = op_is_kept c.args.known.definition.now _ c.in-Op.op c.in-Op.parts _ c.in-Op.is c.shape.ensures

pub returns-in-List : goal.returns-in-List
returns-in-List c =
    list_is_kept c.args.known.definition.now _ c.in-List.list c.in-List.elements c.in-List.unfinished _ c.in-List.is c.shape.ensures
