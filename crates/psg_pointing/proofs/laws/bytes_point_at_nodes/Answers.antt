use Rattle.psg_ranges.proofs.OwnLaws.{ranges_are}
use Rattle.psg_ranges.specs.Forests.{nodes_of}
use Rattle.psg_pointing.proofs.Walks.{node_there}
use Rattle.psg_pointing.proofs.laws.bytes_point_at_nodes.Goals as goal

pub returns : goal.returns
returns c = λ f kind level depth ts y tokens byte path h.
    node_there tokens byte c.args._definition.now ts f _ (ranges_are c.args._definition.now f kind level depth ts y) path h
