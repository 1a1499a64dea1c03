use Rattle.psg_tui.proofs.OpeningLaws.{over_opened}
use Rattle.psg_tui.proofs.opening.put_text.Goals as goal

pub returns-in-None : goal.returns-in-None
returns-in-None g c = (
  c.apply-reply.ensures.language,
  λ kind tree at. over_opened _ _ _ _ _ _ _ _ _ _ c.in_ok-reply.ensures.applied kind tree at,
)
