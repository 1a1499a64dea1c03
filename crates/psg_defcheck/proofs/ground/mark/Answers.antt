use Rattle.std.proofs.Common.{subst}
use Rattle.psg_defcheck.specs.Grounds.{MakesGround}
use Rattle.psg_defcheck.proofs.GroundLaws.{sort_found, right-insert}
use Rattle.psg_defcheck.proofs.ground.mark.Goals as goal

pub returns-clause-right : goal.returns-clause-right
returns-clause-right c = λ right.
    right-insert c.args.scope.now c.args.marks.now c.insert.new.self c.args.name.now c.in-Some.sort.now (sort_found c.args.scope.now c.args.name.now c.sort.result c.in-Some.sort c.sort.ensures c.in-Some.is)
    (subst (MakesGround c.args.marks.now) c.as_slice.ensures (c.makes_ground.ensures.0 c.if-not-makes_ground.false)) c.in_ok-insert.ensures.has right
