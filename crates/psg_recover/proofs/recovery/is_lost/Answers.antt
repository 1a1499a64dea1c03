use Rattle.std.proofs.Common.{◌∙◌, ap, sym}
use Rattle.psg_recover.specs.Candidates.{is_lost_wanted}
use Rattle.psg_recover.proofs.recovery.is_lost.Goals as goal

pub returns-in-Hole : goal.returns-in-Hole
returns-in-Hole c = c.is_declaring.ensures ∙ ap (is_lost_wanted c.args.known.definition.now) (sym c.in-Hole.is)
