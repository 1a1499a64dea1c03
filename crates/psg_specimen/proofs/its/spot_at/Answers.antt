use Rattle.std.proofs.Common.{ap, sym, ◌∙◌}
use Rattle.psg_terms.proofs.Lists.{got_some, got_none}
use Rattle.psg_specimen.specs.Its.{there_or}
use Rattle.psg_specimen.proofs.its.spot_at.Goals as goal

pub returns-in-Some : goal.returns-in-Some
returns-in-Some c = sym (ap there_or (got_some c.args.spots.now c.args.place c.get.result c.in-Some.found c.get.ensures.lookup c.in-Some.is))

pub returns-in-None : goal.returns-in-None
returns-in-None c = c.spot_with.ensures ∙ sym (ap there_or (got_none c.args.spots.now c.args.place c.get.result c.get.ensures.lookup c.in-None.is))
