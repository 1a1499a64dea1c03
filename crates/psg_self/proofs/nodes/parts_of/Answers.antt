use Rattle.psg_self.proofs.NodeLaws.{operator-parts, list-parts}
use Rattle.psg_self.proofs.nodes.parts_of.Goals as goal

pub returns-in-Op : goal.returns-in-Op
returns-in-Op c = operator-parts _ c.in-Op.op c.in-Op.parts _ c.as_slice.result.now c.in-Op.is c.as_slice.ensures c.shape.ensures

pub returns-in-List : goal.returns-in-List
returns-in-List c = list-parts _ c.in-List.list c.in-List.elements c.in-List.unfinished _ c.in-List.is c.shape.ensures
