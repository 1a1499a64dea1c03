use Rattle.std.proofs.Common.{ap, map, ◌∙◌}
use Rattle.std.specs.Prelude.{string_bytes}
use Rattle.psg_cache.specs.Annotated.{tree_in}
use Rattle.psg_completing.proofs.Offers.{answered_err, answered_ok, nothing_of, offered_for}
use Rattle.psg_completing.proofs.offering.offers_answered.Goals as goal

pub offers_among-requires : goal.offers_among-requires
offers_among-requires g c = c.requires

pub returns-in_ok-offers-in-Ok : goal.returns-in_ok-offers-in-Ok
returns-in_ok-offers-in-Ok g c =
    let gap = c.args.open in
    let def = gap.known.program.language.now in
    let kind = gap.known.program.kind in
    let tree = tree_in gap.known.program.note.now in
    offered_for def kind tree gap.spot.now gap.least gap.sample.now gap.prefix.now c.in_ok-offers-in-Ok.offers _ _
    (ap (map string_bytes) c.as_slice-row.ensures.value ∙ answered_ok c.args.told c.in-Ok.ops c.in-Ok.is)
    c.in_ok-offers-in-Ok.ensures

pub returns-in-Err : goal.returns-in-Err
returns-in-Err g c =
    let gap = c.args.open in
    let def = gap.known.program.language.now in
    let kind = gap.known.program.kind in
    let tree = tree_in gap.known.program.note.now in
    nothing_of def kind tree gap.spot.now gap.least gap.sample.now gap.prefix.now c.no_offers.result _
    (answered_err c.args.told _ c.in-Err.is) c.no_offers.ensures.entries c.no_offers.ensures.more
