use Rattle.std.proofs.Common.{◌≡◌, length, rules, sym, true≢false, ◌∙◌, arith, refl}
use Rattle.psg_stop.specs.Wanted.{wanted_terminal}
use Rattle.psg_program.proofs.Told.{found, left_more, not_found}
use Rattle.psg_program.proofs.expected.is_among.Goals as goal

pub loop-other-init : goal.loop-other-init
loop-other-init c = (λ h. h, λ h. h)

pub loop-other-preserved : goal.loop-other-preserved
loop-other-preserved c =
    left_more (wanted_terminal c.args.one.now) c.args.all.now c.loop-other.other-index c.other-item.result
    c.loop-other-test.true c.other-item.is
    (λ e. true≢false (sym (c.is_same-same.ensures.1 e) ∙ c.if-same.false)) c.loop-other.invariant

pub returns-then-same : goal.returns-then-same
returns-then-same c = (
  λ h. found (wanted_terminal c.args.one.now) c.args.all.now c.loop-other.other-index c.other-item.result
      c.loop-other-test.true c.other-item.is (c.is_same-same.ensures.0 c.if-same.true) c.loop-other.invariant,
  λ h. refl,
)

pub returns : goal.returns
returns c =
    let end : c.loop-other.other-index ≡ length c.args.all.now = search rules in (
      λ h. absurd (true≢false (sym h)),
      λ h. absurd (not_found (wanted_terminal c.args.one.now) c.args.all.now c.loop-other.other-index (omega (arith, end)) c.loop-other.invariant h),
    )
