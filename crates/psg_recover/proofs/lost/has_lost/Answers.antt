use Rattle.std.proofs.Common.{◌∙◌, refl, sym}
use Rattle.psg_recover.proofs.LostLaws.{any_end, any_here, any_next}
use Rattle.psg_recover.proofs.lost.has_lost.Goals as goal

pub loop-i-init : goal.loop-i-init
loop-i-init c = refl

pub returns-then-is_lost : goal.returns-then-is_lost
returns-then-is_lost c =
    any_here c.args.known.definition.now c.args.elements.now c.loop-i.i c.index-elements-i.result _ c.loop-i-test.true
    c.index-elements-i.is (sym c.is_lost.ensures ∙ c.if-is_lost.true) c.loop-i.invariant

pub loop-i-preserved : goal.loop-i-preserved
loop-i-preserved c =
    any_next c.args.known.definition.now c.args.elements.now c.loop-i.i c.index-elements-i.result _ c.loop-i-test.true
    c.index-elements-i.is (sym c.is_lost.ensures ∙ c.if-is_lost.false) c.loop-i.invariant

pub returns : goal.returns
returns c =
    any_end c.args.known.definition.now c.args.elements.now c.loop-i.i _ c.loop-i-test.false c.loop-i.invariant
