use Rattle.std.proofs.Common.{◌∙◌, refl}
use Rattle.psg_tui.specs.Unasked.{unasked_lines}
use Rattle.psg_tui.proofs.telling.unasked_page.Goals as goal

pub returns : goal.returns
unfolding unasked_lines
returns c = c.in_ok-page.ensures ∙ refl
