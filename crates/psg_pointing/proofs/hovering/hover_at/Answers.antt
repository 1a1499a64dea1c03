use Rattle.std.proofs.Common.{None, subst}
use Rattle.psg_program.specs.Decoding.{unmarked}
use Rattle.psg_pointing.specs.Hovering.{unknown}
use Rattle.psg_pointing.specs.Judging.{IsJudgement}
use Rattle.psg_pointing.proofs.Hovers.{judged_there}
use Rattle.psg_pointing.proofs.hovering.hover_at.Goals as goal

pub hovered-requires : goal.hovered-requires
hovered-requires g c =
    judged_there c.args.language.now c.args.kind c.args.text.now c.in-Some.judged
    (subst (IsJudgement c.args.language.now c.args.kind c.args.text.now) c.in-Some.is c.in_ok-found.ensures)

pub returns-in_ok-hover-in-Some : goal.returns-in_ok-hover-in-Some
returns-in_ok-hover-in-Some g c = c.in_ok-hover-in-Some.ensures

pub returns-in-None : goal.returns-in-None
returns-in-None g c =
    unknown (subst (IsJudgement c.args.language.now c.args.kind c.args.text.now) c.in-None.is c.in_ok-found.ensures)
