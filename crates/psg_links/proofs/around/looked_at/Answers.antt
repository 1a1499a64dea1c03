use Rattle.std.proofs.Common.{length, ap, option_copied, sym, ◌∙◌}
use Rattle.psg_links.proofs.AroundLaws.{looked_none, looked_some}
use Rattle.psg_links.proofs.around.looked_at.Goals as goal

pub returns-in-Some : goal.returns-in-Some
returns-in-Some c =
    looked_some c.args.regions.now c.in-Some.last.now (length c.steps.result.now)
    (sym c.last.ensures.value ∙ ap option_copied c.in-Some.is) (ap length c.steps.ensures)

pub returns-in-None : goal.returns-in-None
returns-in-None c = looked_none c.args.regions.now (sym c.last.ensures.value ∙ ap option_copied c.in-None.is)
