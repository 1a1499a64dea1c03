use Rattle.std.proofs.Common.{subst}
use Rattle.psg_places.specs.Ways.{IsElementBack}
use Rattle.psg_places.proofs.WayLaws.{back_first, back_step}
use Rattle.psg_places.proofs.ways.path_back.Goals as goal

pub steps-init : goal.steps-init
steps-init c =
    back_first c.args.opened.now c.args.path.now c.new-at.result.items c.steps-left.result.now c.new-at.ensures.items
    c.steps-left.ensures

pub steps-preserved : goal.steps-preserved
steps-preserved c =
    back_step c.args.opened.now c.args.path.now c.steps.at.items c.push.new.self.items c.steps.left.now c.in-Some.rest.now
    c.in-Some.step.now c.in_ok-back.back c.steps.invariant c.in-Some.ensures.cases.0
    (subst (λ at. IsElementBack c.args.opened.now at c.in-Some.step.now c.in_ok-back.back) c.as_slice.ensures.value c.in_ok-back.ensures)
    c.in_ok-push.ensures.items
