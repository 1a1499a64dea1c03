use Rattle.psg_cache.proofs.AlikeLaws.{hole_shape, list_shape, operator_shape}
use Rattle.psg_cache.proofs.renoting.hole_in.Goals as goal

pub returns-in-Op : goal.returns-in-Op
returns-in-Op c = (operator_shape c.shape.result.now c.in-Op.op c.in-Op.parts c.args.tree.now c.in-Op.is c.shape.ensures).2

pub returns-in-List : goal.returns-in-List
returns-in-List c =
    (list_shape c.shape.result.now c.in-List.list c.in-List.elements c.in-List.unfinished c.args.tree.now c.in-List.is
    c.shape.ensures).2

pub returns-in-Hole : goal.returns-in-Hole
returns-in-Hole c = (hole_shape c.shape.result.now c.in-Hole.phylum c.args.tree.now c.in-Hole.is c.shape.ensures).2
