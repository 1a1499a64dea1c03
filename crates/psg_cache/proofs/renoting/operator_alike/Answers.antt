use Rattle.psg_cache.proofs.AlikeLaws.{operator_hole, operator_list, operator_operator}
use Rattle.psg_cache.proofs.renoting.operator_alike.Goals as goal

pub returns-in-Hole : goal.returns-in-Hole
returns-in-Hole c =
    operator_hole c.args.number c.in-Hole.phylum c.args.own.now c.shape.result.now c.args.new.now c.in-Hole.is
    c.shape.ensures

pub returns-in-Op : goal.returns-in-Op
returns-in-Op c =
    operator_operator c.args.number c.in-Op.op c.args.own.now c.in-Op.parts c.as_slice.result.now c.shape.result.now
    c.args.new.now c.are_same-equal.result c.own_alike-alike.result c.both.result c.in-Op.is c.shape.ensures
    c.are_same-equal.ensures c.own_alike-alike.ensures c.as_slice.ensures c.both.ensures

pub returns-in-List : goal.returns-in-List
returns-in-List c =
    operator_list c.args.number c.in-List.list c.args.own.now c.in-List.elements c.in-List.unfinished c.shape.result.now
    c.args.new.now c.in-List.is c.shape.ensures
