use Rattle.std.proofs.Common.{sym, ◌∙◌, true≢false}
use Rattle.psg_session.proofs.saved.is_full.Goals as goal

pub returns-then-not-is_new : goal.returns-then-not-is_new
returns-then-not-is_new c = (
  (λ t. absurd (true≢false (sym t))),
  (λ full. absurd (true≢false (sym (c.is_new.ensures.1 full.0) ∙ c.if-not-is_new.true))),
)

pub returns : goal.returns
returns c = (
  (λ t. (c.is_new.ensures.0 c.if-not-is_new.false, c.has_most.ensures.0 t)),
  (λ full. c.has_most.ensures.1 full.1),
)
