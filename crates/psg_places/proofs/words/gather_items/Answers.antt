use Rattle.psg_places.proofs.Gathered.{item_gathered, items_gathered}
use Rattle.psg_places.proofs.words.gather_items.Goals as goal

pub loop-item-preserved : goal.loop-item-preserved
loop-item-preserved c =
    item_gathered c.args.items.now c.loop-item.item-index c.item-item.result c.args.found.now.items c.loop-item.found.items
    c.gather_item.new.found.items c.loop-item-test.true c.item-item.is c.loop-item.invariant c.in_ok-gather_item.ensures

pub returns : goal.returns
returns c =
    items_gathered c.args.items.now c.loop-item.item-index c.args.found.now.items c.loop-item.found.items c.loop-item-test.false
    c.loop-item.invariant
