use Rattle.std.proofs.Common.{sym, refl, true≢false}
use Rattle.psg_session.proofs.pasting.is_hole.Goals as goal

pub returns-in-Some : goal.returns-in-Some
returns-in-Some c = ((λ t. (c.in-Some.field-0, c.in-Some.ensures.some)), (λ h. refl))

pub returns-in-None : goal.returns-in-None
returns-in-None c = ((λ t. absurd (true≢false (sym t))), (λ h. absurd (c.in-None.ensures.none h.0 h.1)))
