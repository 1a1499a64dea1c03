use Rattle.std.proofs.Common.{◌<◌, inl, length, refl, sym, ap, ◌∙◌, subst, true≢false}
use Rattle.std.specs.Prelude.{◌↔◌, IsTrue}
use Rattle.std.specs.List.{AllByRecursion}
use Rattle.psg_terms.specs.Marks.{con_numbers}
use Rattle.psg_terms.specs.Shapes.{term_of}
use Rattle.psg_completions.specs.Cases.{CasesFor}
use Rattle.psg_specimen.specs.Variables.{IsWhole}
use Rattle.psg_specimen.proofs.OverLaws.{constructors_there, of_constructor, of_variable}
use Rattle.psg_specimen.proofs.cases.has_cases.Goals as goal

pub returns-then-is_whole : goal.returns-then-is_whole
returns-then-is_whole c = (
  λ h. inl (subst (λ l. IsWhole l c.args.row.now.term) c.as_slice-cases.ensures (c.is_whole.ensures.0 c.if-is_whole.true)),
  λ h. refl,
)

pub cases_for-requires : goal.cases_for-requires
cases_for-requires c = subst (AllByRecursion (λ k. k < length c.args.sig.now.symbols)) (sym c.constructors_of.ensures) (constructors_there c.args.sig.now c.in-Var.sort.0)

pub returns-in_ok-each-in-Var : goal.returns-in_ok-each-in-Var
returns-in_ok-each-in-Var c =
    let both = of_variable c.args.sig.now c.args.row.now c.in-Var.sort.0 c.in-Var.number (sym c.node.ensures ∙ ap term_of c.in-Var.is) (λ w. true≢false (sym (c.is_whole.ensures.1 (subst (λ l. IsWhole l c.args.row.now.term) (sym c.as_slice-cases.ensures) w)) ∙ c.if-is_whole.false)) in
    let test = subst (λ l. IsTrue c.in_ok-each-in-Var.each ↔ CasesFor c.args.sig.now l (con_numbers c.constructors_of.result.now)) c.as_slice-cases.ensures c.in_ok-each-in-Var.ensures in
    let own = subst (λ l. IsTrue c.in_ok-each-in-Var.each ↔ CasesFor c.args.sig.now c.args.row.now.cases l) c.constructors_of.ensures test in
    (λ h. both.0 (own.0 h), λ h. own.1 (both.1 h))

pub returns-in-Con : goal.returns-in-Con
returns-in-Con c = (
  λ h. absurd (true≢false (sym h)),
  λ h. absurd (of_constructor c.args.sig.now c.args.row.now c.in-Con.con.0 c.in-Con.args (sym c.node.ensures ∙ ap term_of c.in-Con.is) (λ w. true≢false (sym (c.is_whole.ensures.1 (subst (λ l. IsWhole l c.args.row.now.term) (sym c.as_slice-cases.ensures) w)) ∙ c.if-is_whole.false)) h),
)
