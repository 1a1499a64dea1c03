use Rattle.std.proofs.Common.{take, sym, ap, ◌∙◌, subst, arith, take_all}
use Rattle.std.specs.Option.{option_copied}
use Rattle.psg_textedit.specs.Surroundings.{Surrounds, at_top}
use Rattle.psg_textedit.proofs.Ways.{way_kept, way_lost, way_low}
use Rattle.psg_textedit.proofs.places.place_of.Goals as goal

pub loop-step-init : goal.loop-step-init
loop-step-init c = at_top

pub wanted_at-wanted-requires : goal.wanted_at-wanted-requires
wanted_at-wanted-requires c = record { sound = c.requires.sound }

pub placed-place-requires : goal.placed-place-requires
placed-place-requires c =
    let low = way_low c.args.definition.now c.args.tree.now 0 0 (take c.loop-step.step-index c.args.path.now)
    c.loop-step.place.node.now c.loop-step.place.least c.loop-step.place.around c.loop-step.invariant in
    record { few = omega (arith, low, c.requires.shallow) }

pub returns-clause-some : goal.returns-clause-some
returns-clause-some c =
    subst (λ q. Surrounds c.args.definition.now c.args.tree.now 0 0 q c.loop-step.place.node.now c.loop-step.place.least
    c.loop-step.place.around)
    (take_all c.loop-step.step-index c.args.path.now (omega (arith, c.loop-step-test.false))) c.loop-step.invariant

pub returns-in_default-clause-none : goal.returns-in_default-clause-none
returns-in_default-clause-none c =
    way_lost c.args.definition.now c.args.tree.now c.args.path.now c.loop-step.step-index c.loop-step.place.node.now
    c.loop-step.place.least c.loop-step.place.around _ c.loop-step.invariant c.loop-step-test.true
    (sym c.child_at.ensures ∙ ap option_copied c.in_default.is)

pub loop-step-preserved : goal.loop-step-preserved
loop-step-preserved c =
    way_kept c.args.definition.now c.args.tree.now c.args.path.now c.loop-step.step-index c.loop-step.place.node.now
    c.loop-step.place.least c.loop-step.place.around _ c.loop-step.invariant c.loop-step-test.true c.in-Some.child.now
    c.placed-place.result.node.now c.wanted_at-wanted.result c.placed-place.result.least c.placed-place.result.around
    (sym c.child_at.ensures ∙ ap option_copied c.in-Some.is) c.wanted_at-wanted.ensures c.placed-place.ensures.node
    c.placed-place.ensures.least c.placed-place.ensures.around
