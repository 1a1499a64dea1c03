use Rattle.std.proofs.Common.{◌≡◌, ◌+◌, ◌-◌, ◌*◌, ◌^◌, ◌<◌, length, sym, subst, arith}
use Rattle.psg_lexis.specs.Tokens.{value_of}
use Rattle.psg_deflines.proofs.NumberLaws.{digit-read, digits-too-large, digits-left}
use Rattle.psg_deflines.proofs.tree_pieces.value.Goals as goal

pub returns-in_err-tens : goal.returns-in_err-tens
returns-in_err-tens c =
    rw c.from_residual.ensures (digits-too-large (2 ^ 128) (c.loop-digit.value * 10) c.loop-digit.value c.in-Some.digit.now _ _ _ c.in-Some.ensures.cases.0 c.loop-digit.invariant.2 (omega arith) c.in_err-tens.ensures)

pub returns-in_err-value : goal.returns-in_err-value
returns-in_err-value c =
    rw c.from_residual-in_err-value.ensures (digits-too-large (2 ^ 128) (c.in_ok-tens.tens + c.from.result) c.loop-digit.value c.in-Some.digit.now _ _ _ c.in-Some.ensures.cases.0 c.loop-digit.invariant.2 (omega (arith, c.from.ensures)) c.in_err-value.ensures)

pub loop-digit-preserved : goal.loop-digit-preserved
loop-digit-preserved c =
    let same : c.in_ok-value.value ≡ c.loop-digit.value * 10 + (c.in-Some.digit.now - 48) = omega (arith, c.from.ensures) in (
      (digits-left _ _ _ c.in-Some.ensures.cases.0 c.loop-digit.invariant.0).1,
      subst (λ v. v < 2 ^ 128) (sym c.in_ok-value.ensures.1) c.in_ok-value.ensures.0,
      subst (λ v. v * 10 ^ length c.in-Some.after.now + value_of c.in-Some.after.now ≡ value_of c.args.digits.now) (sym same)
          (digit-read _ _ _ _ _ c.in-Some.ensures.cases.0 c.loop-digit.invariant.2),
    )
