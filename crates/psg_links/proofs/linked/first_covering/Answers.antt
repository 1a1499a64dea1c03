use Rattle.std.proofs.Common.{refl}
use Rattle.psg_links.proofs.SpotLaws.{covering_here, covering_next, covering_none}
use Rattle.psg_links.proofs.linked.first_covering.Goals as goal

pub loop-place-init : goal.loop-place-init
loop-place-init c = λ f h. refl

pub loop-place-preserved : goal.loop-place-preserved
loop-place-preserved c = λ f h.
    covering_next c.args.sheet.tokens.now f c.args.byte c.args.links.now c.loop-place.place c.index-links-place.result
    c.spot_of_link-spot.result c.loop-place-test.true c.index-links-place.is (c.spot_of_link-spot.ensures f h)
    c.in_default.ensures (c.loop-place.invariant f h)

pub returns-in-Some : goal.returns-in-Some
returns-in-Some c = λ f h.
    covering_here c.args.sheet.tokens.now f c.args.byte c.args.links.now c.loop-place.place c.index-links-place.result
    c.spot_of_link-spot.result c.in-Some.own c.loop-place-test.true c.index-links-place.is (c.spot_of_link-spot.ensures f h)
    c.in-Some.ensures.0 c.in-Some.ensures.1 (c.loop-place.invariant f h)

pub returns : goal.returns
returns c = λ f h.
    covering_none c.args.sheet.tokens.now f c.args.byte c.args.links.now c.loop-place.place c.loop-place-test.false
    (c.loop-place.invariant f h)
