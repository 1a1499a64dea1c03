use Rattle.psg_defcheck.proofs.CheckLaws.{number-none}
use Rattle.psg_defcheck.proofs.checked_lines.number.Goals as goal

pub unreachable-requires : goal.unreachable-requires
unreachable-requires c = number-none c.args.names.now c.args.name.now c.found.result c.found.ensures.there c.in-None.is c.requires.there
