use Rattle.std.specs.Prelude.{map, string_bytes}
use Rattle.psg_cache.specs.Annotated.{tree_in}
use Rattle.psg_completing.proofs.Offers.{offers_end, offers_first, offers_next}
use Rattle.psg_completing.proofs.offering.offers_among.Goals as goal

pub offers_of-requires : goal.offers_of-requires
offers_of-requires g c = c.requires

pub loop-op-init : goal.loop-op-init
loop-op-init g c =
    let gap = c.args.open in
    offers_first gap.known.program.language.now gap.known.program.kind (tree_in gap.known.program.note.now)
    gap.spot.now gap.least gap.sample.now gap.prefix.now (map string_bytes c.args.ops.now) c.no_offers-offers.result
    c.no_offers-offers.ensures.entries c.no_offers-offers.ensures.more

pub loop-op-preserved : goal.loop-op-preserved
loop-op-preserved g c =
    let gap = c.args.open in
    offers_next gap.known.program.language.now gap.known.program.kind (tree_in gap.known.program.note.now)
    gap.spot.now gap.least gap.sample.now gap.prefix.now (map string_bytes c.args.ops.now) c.args.ops.now c.loop-op.op-index
    c.op-item.result c.as_str-name.result.now c.loop-op.offers c.in_ok-here.here _ c.loop-op-test.true c.op-item.is
    c.as_str-name.ensures.value c.in_ok-here.ensures c.in_ok-push_offers.ensures c.loop-op.invariant

pub returns : goal.returns
returns g c =
    let gap = c.args.open in
    offers_end gap.known.program.language.now gap.known.program.kind (tree_in gap.known.program.note.now)
    gap.spot.now gap.least gap.sample.now gap.prefix.now (map string_bytes c.args.ops.now) c.args.ops.now c.loop-op.op-index
    c.loop-op.offers c.loop-op-test.false c.loop-op.invariant
