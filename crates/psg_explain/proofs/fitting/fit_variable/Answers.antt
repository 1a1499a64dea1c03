use Rattle.std.proofs.Common.{◌++◌, ◌∷◌, [], ◌-◌, inl, inr, refl, slice_get, ap, sym, ◌∙◌, arith}
use Rattle.psg_terms.proofs.Lists.{got_none, got_some}
use Rattle.psg_explain.proofs.FitLaws.{known_valued, next_valued, no_number}
use Rattle.psg_explain.proofs.fitting.fit_variable.Goals as goal

pub returns-then-number-eq0 : goal.returns-then-number-eq0
returns-then-number-eq0 c = λ f known s v num is. absurd (no_number f known c.args.values.now.items v s c.args.number num (inl c.if-number-eq0.true))

pub returns-then-place-len : goal.returns-then-place-len
returns-then-place-len c = λ f known s v num is.
    let some = c.if-number-eq0.false in
    let at = c.if-place-len.true in
    let ok = c.args.values.now.ok.0 in (
      refl,
      next_valued f known c.args.values.now.items v s c.args.number num c.args.special.now c.push.new.self.items is (omega (arith, some, at, ok))
          (c.in_ok-push.ensures.items ∙ ap (λ t. c.args.values.now.items ++ t ∷ []) c.in_ok-share.ensures),
    )

pub returns-in_ok-same-in-Some : goal.returns-in_ok-same-in-Some
returns-in_ok-same-in-Some c = λ f known s v num is.
    let place = c.args.number - 1 in
    let at = ap (λ xs. slice_get xs place) (sym c.as_slice.ensures.value) ∙ got_some c.as_slice.result.now place c.get.result c.in-Some.value c.get.ensures.lookup c.in-Some.is in
    let (same, valued) = known_valued f known c.args.values.now.items v s c.args.number num c.in-Some.value.now at in
    (c.in_ok-same-in-Some.ensures.1 (same ∙ sym is), valued)

pub returns-in-None : goal.returns-in-None
returns-in-None c = λ f known s v num is.
    let place = c.args.number - 1 in
    let other = c.if-place-len.false in
    let ok = c.args.values.now.ok.0 in
    let at = ap (λ xs. slice_get xs place) (sym c.as_slice.ensures.value) ∙ got_none c.as_slice.result.now place c.get.result c.get.ensures.lookup c.in-None.is in
    absurd (no_number f known c.args.values.now.items v s c.args.number num (inr (at, λ e. other (omega (arith, e, ok)))))
