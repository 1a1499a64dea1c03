use Rattle.psg_defcheck.proofs.CheckLaws.{number-none}
use Rattle.psg_defcheck.proofs.checked_lines.place.Goals as goal

pub unreachable-requires : goal.unreachable-requires
unreachable-requires c = number-none c.args.names.now c.args.name.now c.place.result c.place.ensures.there c.in-None.is c.requires
