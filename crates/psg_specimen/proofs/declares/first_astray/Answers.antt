use Rattle.std.proofs.Common.{Some, None, length, refl, sym, ◌∙◌, subst, true≢false, arith}
use Rattle.psg_specimen.specs.Declares.{DeclaresIt}
use Rattle.psg_specimen.specs.Walks.{Finds}
use Rattle.psg_covering.proofs.Firsts.{At, more, fails, all}
use Rattle.psg_specimen.proofs.declares.first_astray.Goals as goal

pub loop-number-preserved : goal.loop-number-preserved
loop-number-preserved c = more c.as_slice-rows.result.now (DeclaresIt c.args.definition.now) c.loop-number.number c.index-rows-number.result c.loop-number-test.true c.index-rows-number.is (c.in_ok-declares_it.ensures.0 c.if-not-branch.false) c.loop-number.invariant

pub returns-then-not-branch : goal.returns-then-not-branch
returns-then-not-branch c =
    subst (λ rows. Finds (At rows (DeclaresIt c.args.definition.now)) (Some c.loop-number.number)) c.as_slice-rows.ensures (
      fails c.as_slice-rows.result.now (DeclaresIt c.args.definition.now) c.loop-number.number c.index-rows-number.result c.loop-number-test.true c.index-rows-number.is (λ p. true≢false (sym (c.in_ok-declares_it.ensures.1 p) ∙ c.if-not-branch.true)),
      c.loop-number.invariant,
    )

pub returns : goal.returns
returns c =
    subst (λ rows. Finds (At rows (DeclaresIt c.args.definition.now)) None) c.as_slice-rows.ensures
    (all c.as_slice-rows.result.now (DeclaresIt c.args.definition.now) (length c.as_slice-rows.result.now) refl (λ m lt. c.loop-number.invariant m (omega arith)))
