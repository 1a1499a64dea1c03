use Rattle.psg_explain.specs.Equations.{Equation}
use Rattle.psg_explain.specs.Verdicts.{IsDerived}
use Rattle.psg_explain.proofs.RightLaws.{circle_right, no_circle}
use Rattle.psg_explain.proofs.UnderLaws.{match_none, match_some, unmade}
use Rattle.psg_explain.proofs.applying.circles.Goals as goal

pub returns-in_default : goal.returns-in_default
returns-in_default c = λ rows.
    unmade (no_circle c.args.case.now.given c.args.case.now.columns c.args.rules.now c.args.number
    (match_none c.in_ok-found.found c.in_default.is ((e : Equation) → IsDerived c.args.case.now.given c.args.rules.now c.args.number e → ⊥) (λ e. IsDerived c.args.case.now.given c.args.rules.now c.args.number e) c.in_ok-found.ensures) rows)

pub returns : goal.returns
returns c =
    circle_right c.args.case.now.given c.args.case.now.columns c.args.rules.now c.args.number c.in_ok-met.met c.in-Some.equation
    (match_some c.in_ok-found.found c.in-Some.equation c.in-Some.is ((e : Equation) → IsDerived c.args.case.now.given c.args.rules.now c.args.number e → ⊥) (λ e. IsDerived c.args.case.now.given c.args.rules.now c.args.number e) c.in_ok-found.ensures)
    c.in_ok-met.ensures
