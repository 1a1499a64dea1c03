use Rattle.std.proofs.Common.{◌↔◌, IsTrue, List, ℕ, subst, sym}
use Rattle.psg_terms.specs.Terms.{Term}
use Rattle.psg_explain.specs.declared.refutation.Rule.{Rule}
use Rattle.psg_explain.specs.declared.refutation.Verdict.{Verdict}
use Rattle.psg_explain.specs.declared.refutation.Verdict.TheVariants as verdicts
use Rattle.psg_explain.specs.Verdicts.{IsRight}
use Rattle.psg_explain.proofs.applying.is_right.Goals as goal

pub returns-in_ok-covered-in-Covered : goal.returns-in_ok-covered-in-Covered
returns-in_ok-covered-in-Covered c =
    let right = λ (v : Verdict). IsTrue c.in_ok-covered-in-Covered.covered ↔ IsRight c.args.rows.now c.args.case.now.given c.args.case.now.columns v in
    subst right (sym c.in-Covered.is)
    (subst (λ (l : List Rule). right (verdicts.Covered c.in-Covered.to l c.in-Covered.bindings c.in-Covered.values)) c.as_slice-derived.ensures
    (subst (λ (l : List ℕ). right (verdicts.Covered c.in-Covered.to c.as_slice-derived.result.now l c.in-Covered.values)) c.as_slice-numbers.ensures
    (subst (λ (l : List Term). right (verdicts.Covered c.in-Covered.to c.as_slice-derived.result.now c.as_slice-numbers.result.now l)) c.as_slice-terms.ensures c.in_ok-covered-in-Covered.ensures)))

pub returns-in_ok-clash-in-Clash : goal.returns-in_ok-clash-in-Clash
returns-in_ok-clash-in-Clash c =
    let right = λ (v : Verdict). IsTrue c.in_ok-clash-in-Clash.clash ↔ IsRight c.args.rows.now c.args.case.now.given c.args.case.now.columns v in
    subst right (sym c.in-Clash.is)
    (subst (λ (l : List Rule). right (verdicts.Clash l c.in-Clash.number)) c.as_slice-derived-in-Clash.ensures (c.in_ok-clash-in-Clash.ensures c.args.rows.now))

pub returns-in_ok-circle-in-Circle : goal.returns-in_ok-circle-in-Circle
returns-in_ok-circle-in-Circle c =
    let right = λ (v : Verdict). IsTrue c.in_ok-circle-in-Circle.circle ↔ IsRight c.args.rows.now c.args.case.now.given c.args.case.now.columns v in
    subst right (sym c.in-Circle.is)
    (subst (λ (l : List Rule). right (verdicts.Circle l c.in-Circle.number)) c.as_slice-derived-in-Circle.ensures (c.in_ok-circle-in-Circle.ensures c.args.rows.now))
