use Rattle.std.proofs.Common.{Some, None, length, refl, sym, ◌∙◌, subst, true≢false, arith}
use Rattle.psg_specimen.specs.Conditions.{IsBare}
use Rattle.psg_specimen.specs.Walks.{Finds}
use Rattle.psg_covering.proofs.Firsts.{At, more, fails, all}
use Rattle.psg_specimen.proofs.forms.first_scope.Goals as goal

pub loop-number-preserved : goal.loop-number-preserved
loop-number-preserved c =
    more c.as_slice-operators.result.now IsBare c.loop-number.number c.index-operators-number.result c.loop-number-test.true c.index-operators-number.is
    (c.is_bare.ensures.0 c.if-not-is_bare.false) c.loop-number.invariant

pub returns-then-not-is_bare : goal.returns-then-not-is_bare
returns-then-not-is_bare c =
    subst (λ ops. Finds (At ops IsBare) (Some c.loop-number.number)) c.as_slice-operators.ensures (
      fails c.as_slice-operators.result.now IsBare c.loop-number.number c.index-operators-number.result c.loop-number-test.true c.index-operators-number.is
          (λ p. true≢false (sym (c.is_bare.ensures.1 p) ∙ c.if-not-is_bare.true)),
      c.loop-number.invariant,
    )

pub returns : goal.returns
returns c =
    subst (λ ops. Finds (At ops IsBare) None) c.as_slice-operators.ensures
    (all c.as_slice-operators.result.now IsBare (length c.as_slice-operators.result.now) refl (λ m lt. c.loop-number.invariant m (omega arith)))
