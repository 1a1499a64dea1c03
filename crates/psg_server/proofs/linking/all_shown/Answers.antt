use Rattle.psg_server.specs.Linking.{way_of}
use Rattle.psg_server.proofs.LinkingLaws.{all_so_far, more_so_far, none_so_far}
use Rattle.psg_server.proofs.linking.all_shown.Goals as goal

pub loop-spot-init : goal.loop-spot-init
loop-spot-init c =
    none_so_far c.args.sheet.now.encoding c.args.sheet.now.text.now (way_of c.args.how) c.args.all c.args.spots.now
    c.new-values.result.items c.new-values.ensures.items

pub loop-spot-preserved : goal.loop-spot-preserved
loop-spot-preserved c =
    let told = c.in_ok-push_shown.ensures in
    more_so_far c.args.sheet.now.encoding c.args.sheet.now.text.now (way_of c.args.how) c.args.all c.args.spots.now
    c.loop-spot.rest.now c.in-Some.more.now c.in-Some.spot.now c.loop-spot.values.items c.push_shown.new.values.items told.0
    c.in-Some.ensures.cases.0 told.1 told.2 c.loop-spot.invariant

pub returns : goal.returns
returns c =
    all_so_far c.args.sheet.now.encoding c.args.sheet.now.text.now (way_of c.args.how) c.args.all c.args.spots.now
    c.loop-spot.rest.now c.loop-spot.values.items c.in_default.ensures.cases c.loop-spot.invariant
