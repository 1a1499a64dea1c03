use Rattle.std.proofs.Common.{◌∙◌}
use Rattle.psg_lint.proofs.blaming.tell_limit.Goals as goal

pub returns : goal.returns
returns c = λ r is. let (back, h, e) = c.in_ok-byte.ensures r is in (back, h, c.in_ok-told.ensures ∙ e)
