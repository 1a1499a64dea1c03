use Rattle.std.proofs.Common.{sym, ap, ◌∙◌, subst, true≢false}
use Rattle.std.specs.Prelude.{◌↔◌, IsTrue}
use Rattle.psg_terms.specs.Kept.{numbers_of}
use Rattle.psg_terms.specs.Shapes.{term_of}
use Rattle.psg_terms.specs.Signature.{Symbol}
use Rattle.psg_completions.specs.Cases.{AreDifferent}
use Rattle.psg_specimen.proofs.OverLaws.{over_other, over_variable, over_by}
use Rattle.psg_specimen.proofs.cases.is_over.Goals as goal

pub returns-then-made-con : goal.returns-then-made-con
returns-then-made-con c = (
  λ h. absurd (true≢false (sym h)),
  λ o. absurd (over_other c.args.sig.now c.args.con.now.0 c.in-Con.made.0 c.args.term.now c.in-Con.args (sym c.node.ensures ∙ ap term_of c.in-Con.is) c.if-made-con.true o),
)

pub returns-in_ok-different-in-Con : goal.returns-in_ok-different-in-Con
returns-in_ok-different-in-Con c =
    let x : Symbol = record { name = c.constructor.result.now.name; arguments = numbers_of c.constructor.result.now.args; sort = c.constructor.ensures.0 } in
    let both = over_by c.args.sig.now c.args.con.now.0 c.in-Con.made.0 c.args.term.now c.in-Con.args x (sym c.node.ensures ∙ ap term_of c.in-Con.is) c.if-made-con.false c.constructor.ensures.1 in
    let test = subst (λ l. IsTrue c.in_ok-different-in-Con.different ↔ AreDifferent c.args.sig.now l x.arguments) c.as_slice.ensures
    (subst (λ l. IsTrue c.in_ok-different-in-Con.different ↔ AreDifferent c.args.sig.now c.as_slice.result.now (numbers_of l)) c.as_slice-sorts.ensures c.in_ok-different-in-Con.ensures) in
    (λ h. both.0 (test.0 h), λ o. test.1 (both.1 o))

pub returns-in-Var : goal.returns-in-Var
returns-in-Var c = (
  λ h. absurd (true≢false (sym h)),
  λ o. absurd (over_variable c.args.sig.now c.args.con.now.0 c.in-Var.sort.0 c.in-Var.number c.args.term.now (sym c.node.ensures ∙ ap term_of c.in-Var.is) o),
)
