use Rattle.std.proofs.Common.{ap, ◌∙◌}
use Rattle.psg_uses.specs.Regions.{declared_of, first_other, region_of}
use Rattle.psg_uses.proofs.regions.declared_again.Goals as goal

pub returns : goal.returns
returns c =
    let def = c.args.definition.now in
    let f = c.args.tree.now in
    let w = c.args.name.now in
    c.in_ok-found.ensures
    ∙ ap (λ q. first_other w (declared_of def f q)) (c.in_ok-length.ensures.region ∙ ap (region_of def f) c.steps-steps.ensures)
