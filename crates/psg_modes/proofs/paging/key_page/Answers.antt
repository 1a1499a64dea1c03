use Rattle.std.proofs.Common.{◌∙◌, refl}
use Rattle.psg_modes.specs.Pages.{key_lines}
use Rattle.psg_modes.proofs.paging.key_page.Goals as goal

pub returns : goal.returns
unfolding key_lines
returns c = c.in_ok-page.ensures ∙ refl
