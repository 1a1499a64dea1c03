use Rattle.std.proofs.Common.{List, length, refl, ap, sym, ◌∙◌, subst, true≢false, arith}
use Rattle.psg_terms.specs.Terms.{Term}
use Rattle.psg_terms.specs.Instances.{IsInstance}
use Rattle.psg_relation.specs.Choices.{picked}
use Rattle.psg_specimen.proofs.CaseShown.{no_row_shown, row_shown}
use Rattle.psg_covering.proofs.Firsts.{all, more}
use Rattle.psg_specimen.proofs.showing.is_shown.Goals as goal

pub returns-then-branch-clause-shown : goal.returns-then-branch-clause-shown
returns-then-branch-clause-shown c =
    let row = c.index-rows-number.result in
    let e = c.as_slice.ensures.value ∙ c.in_ok-general.ensures ∙ ap (λ r. picked r c.args.keep.now) c.terms.ensures in
    let own = subst (IsInstance c.args.terms.now) e (c.in_ok-is_instance.ensures.instance.0 c.if-branch.true) in (
      λ h. row_shown c.rows-rows.result.now c.args.rel.now c.args.keep.now c.args.terms.now c.loop-number.number row c.rows-rows.ensures.rows c.loop-number-test.true c.index-rows-number.is own,
      λ h. refl,
    )

pub loop-number-preserved : goal.loop-number-preserved
loop-number-preserved c =
    let row = c.index-rows-number.result in
    let e = c.as_slice.ensures.value ∙ c.in_ok-general.ensures ∙ ap (λ r. picked r c.args.keep.now) c.terms.ensures in
    more c.rows-rows.result.now (λ (r : List Term). IsInstance c.args.terms.now (picked r c.args.keep.now) → ⊥) c.loop-number.number row c.loop-number-test.true c.index-rows-number.is
    (λ h. true≢false (sym (c.in_ok-is_instance.ensures.instance.1 (subst (IsInstance c.args.terms.now) (sym e) h)) ∙ c.if-branch.false)) c.loop-number.invariant

pub returns-clause-shown : goal.returns-clause-shown
returns-clause-shown c = (
  λ h. absurd (true≢false (sym h)),
  λ h. absurd (no_row_shown c.rows-rows.result.now c.args.rel.now c.args.keep.now c.args.terms.now c.rows-rows.ensures.rows
      (all c.rows-rows.result.now (λ (r : List Term). IsInstance c.args.terms.now (picked r c.args.keep.now) → ⊥) (length c.rows-rows.result.now) refl (λ m lt. c.loop-number.invariant m (omega (arith, lt)))) h),
)
