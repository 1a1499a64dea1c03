use Rattle.std.proofs.Common.{◌<◌, length, refl, sym, ◌∙◌, subst, arith, true≢false}
use Rattle.psg_terms.proofs.Lists.{get_or_fixed}
use Rattle.psg_specimen.proofs.OverLaws.{all_over, case_fails, con_there, other_number}
use Rattle.psg_specimen.proofs.CaseSteps.{over_next}
use Rattle.psg_specimen.proofs.cases.cases_for.Goals as goal

pub returns-then-cases-constructors : goal.returns-then-cases-constructors
returns-then-cases-constructors c = (
  λ h. absurd (true≢false (sym h)),
  λ d. absurd (other_number c.args.sig.now c.args.cases.now c.args.constructors.now c.if-cases-constructors.true d),
)

pub is_over-requires : goal.is_over-requires
is_over-requires c =
    let ltt : c.loop-number.number < length c.args.constructors.now = subst (λ n. c.loop-number.number < n) c.if-cases-constructors.false c.loop-number-test.true in
    con_there c.args.sig.now c.args.constructors.now c.loop-number.number _ c.requires ltt (get_or_fixed c.args.constructors.now c.loop-number.number _ ltt)

pub loop-number-preserved : goal.loop-number-preserved
loop-number-preserved c =
    let ltt : c.loop-number.number < length c.args.constructors.now = subst (λ n. c.loop-number.number < n) c.if-cases-constructors.false c.loop-number-test.true in
    over_next c.args.sig.now c.args.cases.now c.args.constructors.now c.loop-number.number _ _ c.loop-number-test.true ltt
    (get_or_fixed c.args.cases.now c.loop-number.number _ c.loop-number-test.true) (get_or_fixed c.args.constructors.now c.loop-number.number _ ltt) (c.in_ok-is_over.ensures.0 c.if-not-branch.false) c.loop-number.invariant

pub returns-then-not-branch : goal.returns-then-not-branch
returns-then-not-branch c =
    let ltt : c.loop-number.number < length c.args.constructors.now = subst (λ n. c.loop-number.number < n) c.if-cases-constructors.false c.loop-number-test.true in (
      λ h. absurd (true≢false (sym h)),
      λ d. absurd (case_fails c.args.sig.now c.args.cases.now c.args.constructors.now c.loop-number.number _ _ c.loop-number-test.true ltt
          (get_or_fixed c.args.cases.now c.loop-number.number _ c.loop-number-test.true) (get_or_fixed c.args.constructors.now c.loop-number.number _ ltt) (λ o. true≢false (sym (c.in_ok-is_over.ensures.1 o) ∙ c.if-not-branch.true)) d),
    )

pub returns : goal.returns
returns c = (
  λ h. all_over c.args.sig.now c.args.cases.now c.args.constructors.now c.if-cases-constructors.false (λ m one k lt. c.loop-number.invariant m one k (omega (arith, lt))),
  λ d. refl,
)
