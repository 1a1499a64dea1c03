use Rattle.std.proofs.Common.{◌∙◌}
use Rattle.psg_pointing.proofs.Walks.{way_end, way_first, way_next}
use Rattle.psg_pointing.proofs.pointing.way.Goals as goal

pub levels-init : goal.levels-init
levels-init c = way_first c.args.tokens.now c.args.byte c.args.ranges.now _ c.new-steps.ensures.items

pub levels-preserved : goal.levels-preserved
levels-preserved c =
    way_next c.args.tokens.now c.args.byte c.args.ranges.now c.levels.rest.now c.in-Some.child.ranges.now
    c.levels.steps.items _ c.in-Some.child.number c.in_ok-step.step c.levels.invariant c.in_ok-step.ensures
    c.in_ok-push.ensures.items c.in-Some.ensures.last

pub returns : goal.returns
returns c =
    way_end c.args.tokens.now c.args.byte c.args.ranges.now c.levels.rest.now c.levels.steps.items _ c.levels.invariant
    (c.in_ok-path.ensures ∙ c.as_slice-row.ensures.value) c.in_default.ensures.none
