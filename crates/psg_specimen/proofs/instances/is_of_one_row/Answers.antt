use Rattle.std.proofs.Common.{length, refl, sym, ◌∙◌, true≢false, arith}
use Rattle.psg_specimen.specs.Wanted.{IsOfRow}
use Rattle.psg_covering.proofs.Firsts.{more, all}
use Rattle.psg_specimen.proofs.InstanceLaws.{row_serves, none_serves}
use Rattle.psg_specimen.proofs.instances.is_of_one_row.Goals as goal

pub loop-number-preserved : goal.loop-number-preserved
loop-number-preserved c =
    more c.as_slice-rows.result.now (λ row. IsOfRow c.args.place.now row → ⊥) c.loop-number.number c.index-rows-number.result c.loop-number-test.true c.index-rows-number.is
    (λ h. true≢false (sym (c.in_ok-is_of_row.ensures.1 h) ∙ c.if-branch.false)) c.loop-number.invariant

pub returns-then-branch : goal.returns-then-branch
returns-then-branch c = (
  λ h. row_serves c.args.definition.now c.args.place.now c.as_slice-rows.result.now c.as_slice-rows.ensures c.loop-number.number c.index-rows-number.result c.loop-number-test.true c.index-rows-number.is (c.in_ok-is_of_row.ensures.0 c.if-branch.true),
  λ h. refl,
)

pub returns : goal.returns
returns c = (
  λ h. absurd (true≢false (sym h)),
  λ one. absurd (none_serves c.args.definition.now c.args.place.now c.as_slice-rows.result.now c.as_slice-rows.ensures
      (all c.as_slice-rows.result.now (λ row. IsOfRow c.args.place.now row → ⊥) (length c.as_slice-rows.result.now) refl (λ m lt. c.loop-number.invariant m (omega (arith, lt)))) one),
)
