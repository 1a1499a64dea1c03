use Rattle.std.proofs.Common.{◌∙◌}
use Rattle.psg_scope.proofs.SpaceLaws.{search_tells}
use Rattle.psg_scope.proofs.closing.is_among.Goals as goal

pub returns : goal.returns
returns c = c.is_ok.ensures.value ∙ search_tells _ _ _ c.requires c.binary_search.ensures.position
