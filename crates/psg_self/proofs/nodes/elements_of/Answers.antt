use Rattle.psg_self.proofs.NodeLaws.{operator-elements, list-elements}
use Rattle.psg_self.proofs.nodes.elements_of.Goals as goal

pub returns-in-Op : goal.returns-in-Op
returns-in-Op c = operator-elements _ c.in-Op.op c.in-Op.parts _ c.in-Op.is c.shape.ensures

pub returns-in-List : goal.returns-in-List
returns-in-List c =
    list-elements _ c.in-List.list c.in-List.elements c.in-List.unfinished _ c.as_slice.result.now c.in-List.is c.as_slice.ensures c.shape.ensures
