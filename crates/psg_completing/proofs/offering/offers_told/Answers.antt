use Rattle.psg_cache.specs.Annotated.{tree_in}
use Rattle.psg_completing.proofs.Offers.{nothing_of, offered_for, told_nothing, told_some}
use Rattle.psg_completing.proofs.offering.offers_told.Goals as goal

pub offers_answered-requires : goal.offers_answered-requires
offers_answered-requires g c = c.requires

pub returns-in_ok-offers-in-Some : goal.returns-in_ok-offers-in-Some
returns-in_ok-offers-in-Some g c =
    let gap = c.args.open in
    let def = gap.known.program.language.now in
    let kind = gap.known.program.kind in
    let tree = tree_in gap.known.program.note.now in
    offered_for def kind tree gap.spot.now gap.least gap.sample.now gap.prefix.now c.in_ok-offers-in-Some.offers _ _
    (told_some c.args.read c.in-Some.told c.in-Some.is) c.in_ok-offers-in-Some.ensures

pub returns-in-None : goal.returns-in-None
returns-in-None g c =
    let gap = c.args.open in
    let def = gap.known.program.language.now in
    let kind = gap.known.program.kind in
    let tree = tree_in gap.known.program.note.now in
    nothing_of def kind tree gap.spot.now gap.least gap.sample.now gap.prefix.now c.no_offers.result _
    (told_nothing c.args.read c.in-None.is) c.no_offers.ensures.entries c.no_offers.ensures.more
