use Rattle.std.proofs.Common.{sym, ◌∙◌, true≢false}
use Rattle.psg_specimen.proofs.instances.is_of_row.Goals as goal

pub returns-then-not-same_kind : goal.returns-then-not-same_kind
returns-then-not-same_kind c = (
  λ h. absurd (true≢false (sym h)),
  λ o. absurd (true≢false (sym (c.same_kind.ensures.1 o.same) ∙ c.if-not-same_kind.true)),
)

pub returns : goal.returns
returns c = (
  λ h. record { same = c.same_kind.ensures.0 c.if-not-same_kind.false; is = c.in_ok-instance.ensures.0 h },
  λ o. c.in_ok-instance.ensures.1 o.is,
)
