use Rattle.std.proofs.Common.{◌≡◌, ◌+◌, ◌-◌, ◌*◌, ◌^◌, ◌<◌, true, length, ap, subst, sym, arith, rules}
use Rattle.std.specs.List.{list_all}
use Rattle.psg_grammar.specs.Sound.{is_digit}
use Rattle.psg_lexis.specs.Tokens.{value_of}
use Rattle.psg_defnumber.proofs.DigitLaws.{digit-fits, digit-read, digits-all, digits-left}
use Rattle.psg_defnumber.proofs.specimens.decimal.Goals as goal

pub overflow_mul-value : goal.overflow_mul-value
overflow_mul-value c =
    let small : c.loop-digit.value * 10 < 2 ^ 128 =
    digit-fits (2 ^ 128) (c.loop-digit.value * 10) c.loop-digit.value c.in-Some.digit.now _ _ _ c.in-Some.ensures.cases.0 c.loop-digit.invariant.1 (omega arith) c.requires.small in
    search (rules, small)

pub overflow_add-value : goal.overflow_add-value
overflow_add-value c =
    let small : c.loop-digit.value * 10 + c.from.result < 2 ^ 128 =
    digit-fits (2 ^ 128) (c.loop-digit.value * 10 + c.from.result) c.loop-digit.value c.in-Some.digit.now _ _ _ c.in-Some.ensures.cases.0 c.loop-digit.invariant.1 (omega (arith, c.from.ensures)) c.requires.small in
    search (rules, small)

pub loop-digit-init : goal.loop-digit-init
loop-digit-init c = (
  subst (λ ds. list_all is_digit ds ≡ true) (sym c.as_bytes-rest.ensures.value) (digits-all c.args.digits.now c.requires.digits),
  omega (arith, ap value_of c.as_bytes-rest.ensures.value),
)

pub loop-digit-preserved : goal.loop-digit-preserved
loop-digit-preserved c =
    let same : c.loop-digit.value * 10 + c.from.result ≡ c.loop-digit.value * 10 + (c.in-Some.digit.now - 48) = omega (arith, c.from.ensures) in (
      (digits-left _ _ _ c.in-Some.ensures.cases.0 c.loop-digit.invariant.0).1,
      subst (λ v. v * 10 ^ length c.in-Some.after.now + value_of c.in-Some.after.now ≡ value_of c.args.digits.now) (sym same)
          (digit-read _ _ _ _ _ c.in-Some.ensures.cases.0 c.loop-digit.invariant.1),
    )
