use Rattle.std.proofs.Common.{◌++◌, ap}
use Rattle.psg_links.specs.Renaming.{edited}
use Rattle.psg_links.proofs.RenameLaws.{edit_end, edit_next}
use Rattle.psg_links.proofs.renaming.edited.Goals as goal

pub loop-spot-init : goal.loop-spot-init
loop-spot-init c =
    ap (λ xs. xs ++ edited c.args.bytes.now c.args.new.now 0 c.args.spots.now) c.in_ok-made.ensures.items

pub loop-spot-preserved : goal.loop-spot-preserved
loop-spot-preserved c =
    edit_next c.args.bytes.now c.args.new.now c.loop-spot.rest.now c.in-Some.more.now _ c.loop-spot.from c.end_of-next.result
    c.loop-spot.made.items c.kept_before-kept.result.now c.put_both.new.made.items
    (edited c.args.bytes.now c.args.new.now 0 c.args.spots.now) c.in-Some.ensures.cases.0
    c.kept_before-kept.ensures c.end_of-next.ensures c.in_ok-put_both.ensures c.loop-spot.invariant

pub returns : goal.returns
returns c =
    edit_end c.args.bytes.now c.args.new.now c.loop-spot.rest.now c.loop-spot.from c.loop-spot.made.items
    c.after-last.result.now c.put.new.made.items (edited c.args.bytes.now c.args.new.now 0 c.args.spots.now)
    c.in_default.ensures.cases c.after-last.ensures c.in_ok-put.ensures c.loop-spot.invariant
