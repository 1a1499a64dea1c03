use Rattle.std.proofs.Common.{ap, option_copied, sym, ◌∙◌}
use Rattle.psg_links.specs.Around.{is_front}
use Rattle.psg_links.proofs.AroundLaws.{beside_none, beside_some, front_same}
use Rattle.psg_links.proofs.around.is_beside.Goals as goal

pub returns-in-Some : goal.returns-in-Some
returns-in-Some c =
    beside_some c.args.regions.now c.in-Some.last.now c.args.path.now c.starts_with.result
    (sym c.last.ensures.value ∙ ap option_copied c.in-Some.is)
    (c.starts_with.ensures.value ∙ front_same c.steps.result.now c.args.path.now ∙ ap (λ q. is_front q c.args.path.now) c.steps.ensures)

pub returns-in-None : goal.returns-in-None
returns-in-None c = beside_none c.args.regions.now c.args.path.now (sym c.last.ensures.value ∙ ap option_copied c.in-None.is)
