use Rattle.psg_defcheck.proofs.GroundLaws.{ground-told}
use Rattle.psg_defcheck.proofs.ground.has_ground.Goals as goal

pub returns-in-Sort : goal.returns-in-Sort
returns-in-Sort c = λ file g. ground-told file c.args.marks.now c.args.line.now c.in-Sort.d c.as_str.result.now c.contains.result g c.in-Sort.is c.as_str.ensures c.contains.ensures
