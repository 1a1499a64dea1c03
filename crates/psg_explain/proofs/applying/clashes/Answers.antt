use Rattle.psg_explain.specs.Equations.{Equation}
use Rattle.psg_explain.specs.Verdicts.{IsDerived}
use Rattle.psg_explain.proofs.RightLaws.{clash_right, no_clash}
use Rattle.psg_explain.proofs.UnderLaws.{match_none, match_some, unmade}
use Rattle.psg_explain.proofs.applying.clashes.Goals as goal

pub returns-in_default : goal.returns-in_default
returns-in_default c = λ rows.
    unmade (no_clash c.args.case.now.given c.args.case.now.columns c.args.rules.now c.args.number
    (match_none c.in_ok-found.found c.in_default.is ((e : Equation) → IsDerived c.args.case.now.given c.args.rules.now c.args.number e → ⊥) (λ e. IsDerived c.args.case.now.given c.args.rules.now c.args.number e) c.in_ok-found.ensures) rows)

pub returns : goal.returns
returns c =
    clash_right c.args.case.now.given c.args.case.now.columns c.args.rules.now c.args.number c.is_clash-met.result c.in-Some.equation
    (match_some c.in_ok-found.found c.in-Some.equation c.in-Some.is ((e : Equation) → IsDerived c.args.case.now.given c.args.rules.now c.args.number e → ⊥) (λ e. IsDerived c.args.case.now.given c.args.rules.now c.args.number e) c.in_ok-found.ensures)
    c.is_clash-met.ensures
