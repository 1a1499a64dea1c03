use Rattle.psg_cache.proofs.AlikeLaws.{hole_hole, hole_list, hole_operator}
use Rattle.psg_cache.proofs.renoting.hole_alike.Goals as goal

pub returns-in-Hole : goal.returns-in-Hole
returns-in-Hole c =
    hole_hole c.args.number c.in-Hole.phylum c.shape.result.now c.args.new.now c.are_same.result c.in-Hole.is
    c.shape.ensures c.are_same.ensures

pub returns-in-Op : goal.returns-in-Op
returns-in-Op c =
    hole_operator c.args.number c.in-Op.op c.in-Op.parts c.shape.result.now c.args.new.now c.in-Op.is c.shape.ensures

pub returns-in-List : goal.returns-in-List
returns-in-List c =
    hole_list c.args.number c.in-List.list c.in-List.elements c.in-List.unfinished c.shape.result.now c.args.new.now
    c.in-List.is c.shape.ensures
