use Rattle.std.proofs.Common.{◌++◌, ap}
use Rattle.psg_links.specs.Spots.{spots_of}
use Rattle.psg_links.proofs.SpotLaws.{spots_end, spots_next}
use Rattle.psg_links.proofs.linked.spots_of.Goals as goal

pub loop-place-init : goal.loop-place-init
loop-place-init c = λ f h.
    ap (λ xs. xs ++ spots_of c.args.sheet.tokens.now f c.args.own.now c.args.links.now) c.new-found.ensures.items

pub loop-place-preserved : goal.loop-place-preserved
loop-place-preserved c = λ f h.
    spots_next c.args.sheet.tokens.now f c.args.own.now c.args.links.now c.loop-place.place c.index-links-place.result
    c.spot_of_link-spot.result c.is_together-together.result c.loop-place.found.items c.push_spot.new.found.items
    (spots_of c.args.sheet.tokens.now f c.args.own.now c.args.links.now) c.loop-place-test.true c.index-links-place.is
    (c.spot_of_link-spot.ensures f h) c.is_together-together.ensures c.in_ok-push_spot.ensures (c.loop-place.invariant f h)

pub returns : goal.returns
returns c = λ f h.
    spots_end c.args.sheet.tokens.now f c.args.own.now c.args.links.now c.loop-place.place c.loop-place.found.items
    (spots_of c.args.sheet.tokens.now f c.args.own.now c.args.links.now) c.loop-place-test.false (c.loop-place.invariant f h)
