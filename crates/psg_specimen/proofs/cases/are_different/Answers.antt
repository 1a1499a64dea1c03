use Rattle.std.proofs.Common.{◌<◌, ◌-◌, ◌≡◌, ℕ, length, drop, sym, ◌∙◌, subst, arith, true≢false}
use Rattle.psg_terms.proofs.Lists.{get_or_fixed}
use Rattle.psg_terms.specs.Kept.{numbers_of}
use Rattle.psg_specimen.specs.Variables.{has_key}
use Rattle.psg_specimen.proofs.VariableLaws.{nothing_met}
use Rattle.psg_specimen.proofs.OverLaws.{unequal, nothing_left, numbers_long}
use Rattle.psg_specimen.proofs.CaseSteps.{different_step, different_fails, drop_all}
use Rattle.psg_specimen.proofs.cases.are_different.Goals as goal

inside : (n done : ℕ) → done < n → n - 1 - done < n
inside n done lt = omega (arith, lt)

pub returns-then-terms-sorts : goal.returns-then-terms-sorts
returns-then-terms-sorts c = (
  λ h. absurd (true≢false (sym h)),
  λ d. absurd (unequal c.args.sig.now c.args.terms.now c.args.sorts.now c.if-terms-sorts.true d),
)

pub loop-done-init : goal.loop-done-init
loop-done-init c =
    let n = length c.args.terms.now in
    let all : n - 0 ≡ n = omega arith in (
      nothing_met (has_key c.no_keys-met.result) c.no_keys-met.ensures (drop (n - 0) c.args.terms.now) (drop_all c.args.terms.now (n - 0) all),
      nothing_left c.args.sig.now c.args.terms.now (numbers_of c.args.sorts.now) (n - 0) all (c.if-terms-sorts.false ∙ sym (numbers_long c.args.sig.now c.args.sorts.now)),
    )

pub returns-then-not-branch : goal.returns-then-not-branch
returns-then-not-branch c = (
  λ h. absurd (true≢false (sym h)),
  λ d. absurd (different_fails c.args.sig.now c.args.terms.now c.args.sorts.now c.loop-done.done c.index-terms-place.result _ c.loop-done-test.true c.if-terms-sorts.false
      c.index-terms-place.is
      (get_or_fixed c.args.sorts.now (length c.args.terms.now - 1 - c.loop-done.done) _ (subst (λ n. length c.args.terms.now - 1 - c.loop-done.done < n) c.if-terms-sorts.false (inside (length c.args.terms.now) c.loop-done.done c.loop-done-test.true)))
      (has_key c.loop-done.met) c.loop-done.invariant.0 c.in_ok-is_different.field-0 c.in_ok-is_different.ensures.test c.if-not-branch.true d),
)

pub loop-done-preserved : goal.loop-done-preserved
loop-done-preserved c =
    different_step c.args.sig.now c.args.terms.now c.args.sorts.now c.loop-done.done c.index-terms-place.result _ c.loop-done-test.true c.if-terms-sorts.false
    c.index-terms-place.is
    (get_or_fixed c.args.sorts.now (length c.args.terms.now - 1 - c.loop-done.done) _ (subst (λ n. length c.args.terms.now - 1 - c.loop-done.done < n) c.if-terms-sorts.false (inside (length c.args.terms.now) c.loop-done.done c.loop-done-test.true)))
    (has_key c.loop-done.met) c.loop-done.invariant.0 (has_key c.is_different.new.met) c.in_ok-is_different.field-0 c.loop-done.invariant.1 c.in_ok-is_different.ensures.test c.in_ok-is_different.ensures.met c.if-not-branch.false
