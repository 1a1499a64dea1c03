use Rattle.std.proofs.Common.{◌≡◌, suc, length, ap, ◌∙◌, arith}
use Rattle.psg_links.specs.Around.{regions_of, regions_upto}
use Rattle.psg_links.proofs.AroundLaws.{upto_pushed}
use Rattle.psg_links.proofs.around.enter.Goals as goal

pub loop-steps-preserved : goal.loop-steps-preserved
loop-steps-preserved c =
    upto_pushed c.args.definition.now c.args.tree.now c.args.path.now c.loop-steps.steps
    c.loop-steps.regions.items c.push_region.new.regions.items (regions_of c.in_ok-region.region) c.loop-steps.invariant
    c.in_ok-region.ensures c.in_ok-push_region.ensures

pub returns : goal.returns
returns c =
    let all : c.loop-steps.steps ≡ suc (length c.args.path.now) = omega arith in
    c.loop-steps.invariant ∙ ap (regions_upto c.args.definition.now c.args.tree.now c.args.path.now) all
