use Rattle.std.proofs.Common.{ap, ◌∙◌}
use Rattle.psg_recover.specs.TextPlaces.{token_byte}
use Rattle.psg_recover.proofs.SpotLaws.{one_less_is}
use Rattle.psg_recover.proofs.spots.last_of.Goals as goal

pub returns : goal.returns
returns c = c.token_byte.ensures ∙ ap (token_byte c.args.tokens.now) (c.saturating_sub-number.ensures ∙ one_less_is c.args.range.now.end)
