use Rattle.std.proofs.Common.{◌≡◌, ◌+◌, ◌-◌, ◌*◌, ◌^◌, ◌<◌, chars, length, sym, subst, arith}
use Rattle.psg_lexis.specs.Tokens.{value_of}
use Rattle.psg_lexis.proofs.Decimals.{digit_read, digits_too_large, digits_left, all_read}
use Rattle.psg_lexis.proofs.lexer.decimal.Goals as goal

pub returns-in_err-tens : goal.returns-in_err-tens
returns-in_err-tens c =
    rw c.from_residual.ensures (digits_too_large (2 ^ 128) (c.loop-digit.value * 10) c.loop-digit.value c.in-Some.digit _ _ _ c.in-Some.ensures.first c.loop-digit.invariant.3 (omega arith) c.in_err-tens.ensures)

pub returns-in_err-value : goal.returns-in_err-value
returns-in_err-value c =
    rw c.from_residual-in_err-value.ensures (digits_too_large (2 ^ 128) (c.in_ok-tens.tens + c.from.result) c.loop-digit.value c.in-Some.digit _ _ _ c.in-Some.ensures.first c.loop-digit.invariant.3 (omega (arith, c.from.ensures)) c.in_err-value.ensures)

pub loop-digit-preserved : goal.loop-digit-preserved
loop-digit-preserved c =
    let same : c.in_ok-value.value ≡ c.loop-digit.value * 10 + (c.in-Some.digit - 48) =
    omega (arith, c.from.ensures) in (
      c.in-Some.ensures.first.utf8,
      digits_left _ _ _ c.in-Some.ensures.first c.loop-digit.invariant.1,
      subst (λ v. v < 2 ^ 128) (sym c.in_ok-value.ensures.1) c.in_ok-value.ensures.0,
      subst (λ v. v * 10 ^ length (chars c.in-Some.after.now) + value_of (chars c.in-Some.after.now) ≡ value_of (chars c.args.digits.now)) (sym same)
          (digit_read _ _ _ _ _ c.in-Some.ensures.first c.loop-digit.invariant.3),
    )

pub returns : goal.returns
returns c =
    let same : c.loop-digit.value ≡ value_of (chars c.args.digits.now) =
    all_read _ _ _ c.in_default.ensures.none c.loop-digit.invariant.3 in
    (subst (λ v. v < 2 ^ 128) same c.loop-digit.invariant.2, same)
