use Rattle.psg_pointing.proofs.Tellings.{none_found, some_found}
use Rattle.psg_completing.proofs.offering.operator_of.Goals as goal

pub unreachable-requires : goal.unreachable-requires
unreachable-requires c =
    none_found c.operator_in.result _ c.requires.0 c.in-None.is c.operator_in.ensures c.requires.1

pub returns : goal.returns
returns c = some_found c.operator_in.result c.in-Some.operator _ c.in-Some.is c.operator_in.ensures
