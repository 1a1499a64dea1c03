use Rattle.psg_pointing.proofs.Tellings.{none_found, some_found}
use Rattle.psg_pointing.proofs.hovering.node_there.Goals as goal

pub unreachable-requires : goal.unreachable-requires
unreachable-requires c = none_found c.at.result _ c.requires.0 c.in-None.is c.at.ensures c.requires.1

pub returns : goal.returns
returns c = some_found c.at.result c.in-Some.node _ c.in-Some.is c.at.ensures
