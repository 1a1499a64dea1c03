use Rattle.std.proofs.Common.{sym, ap, ◌∙◌, true≢false}
use Rattle.psg_terms.specs.Shapes.{term_of}
use Rattle.psg_specimen.proofs.ClearLaws.{rest_variable, rest_constant, rest_none}
use Rattle.psg_specimen.proofs.clear.is_rest.Goals as goal

pub returns-in-Var : goal.returns-in-Var
returns-in-Var c =
    let both = rest_variable c.args.sig.now c.args.sort.0 c.args.element.now c.args.rest.now c.in-Var.own.0 c.in-Var.number (sym c.node.ensures ∙ ap term_of c.in-Var.is) in
    (λ h. both.0 (c.is_absent.ensures.0 h), λ h. c.is_absent.ensures.1 (both.1 h))

pub returns-in-Some : goal.returns-in-Some
returns-in-Some c =
    let both = rest_constant c.args.sig.now c.args.sort.0 c.args.element.now c.args.rest.now c.in-Con.con.0 c.in-Some.con.0 c.in-Con.args (sym c.node.ensures ∙ ap term_of c.in-Con.is) c.in-Some.ensures in
    (λ h. both.0 (c.is_constant.ensures.0 h), λ h. c.is_constant.ensures.1 (both.1 h))

pub returns-in-None : goal.returns-in-None
returns-in-None c = (
  λ h. absurd (true≢false (sym h)),
  λ h. absurd (rest_none c.args.sig.now c.args.sort.0 c.args.element.now c.args.rest.now c.in-Con.con.0 c.in-Con.args (sym c.node.ensures ∙ ap term_of c.in-Con.is) c.in-None.ensures h),
)
