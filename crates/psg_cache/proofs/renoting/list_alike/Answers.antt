use Rattle.psg_cache.proofs.AlikeLaws.{list_hole, list_list, list_operator}
use Rattle.psg_cache.proofs.renoting.list_alike.Goals as goal

pub returns-in-Hole : goal.returns-in-Hole
returns-in-Hole c =
    list_hole c.args.number c.in-Hole.phylum c.args.own.now c.args.ends c.shape.result.now c.args.new.now c.in-Hole.is
    c.shape.ensures

pub returns-in-Op : goal.returns-in-Op
returns-in-Op c =
    list_operator c.args.number c.in-Op.op c.args.own.now c.args.ends c.in-Op.parts c.shape.result.now c.args.new.now
    c.in-Op.is c.shape.ensures

pub returns-in-List : goal.returns-in-List
returns-in-List c =
    list_list c.args.number c.in-List.list c.args.own.now c.in-List.elements c.args.ends c.in-List.unfinished
    c.shape.result.now c.args.new.now c.are_same-equal.result c.are_equal-alike.result c.both.result c.in-List.is
    c.shape.ensures c.are_same-equal.ensures c.are_equal-alike.ensures c.both.ensures
