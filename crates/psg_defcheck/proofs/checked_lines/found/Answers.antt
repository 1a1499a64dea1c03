use Rattle.std.proofs.Common.{arith}
use Rattle.psg_defcheck.proofs.CheckLaws.{number-fits}
use Rattle.psg_defcheck.proofs.checked_lines.found.Goals as goal

pub overflow_cast-result : goal.overflow_cast-result
overflow_cast-result c =
    let small = number-fits c.args.names.now c.args.name.now c.place.result c.in-Some.place c.place.ensures.place c.in-Some.is c.requires in omega (arith, small)
