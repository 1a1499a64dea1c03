use Rattle.std.proofs.Common.{◌++◌, ◌∙◌, ap}
use Rattle.psg_specimen.specs.Its.{item_spot}
use Rattle.psg_specimen.proofs.ItLaws.{spots_more}
use Rattle.psg_specimen.proofs.its.item_spots.Goals as goal

pub loop-item-preserved : goal.loop-item-preserved
loop-item-preserved c =
    c.in_ok-add_spot.ensures ∙ ap (λ l. l ++ item_spot c.item-item.result) c.loop-item.invariant
    ∙ spots_more c.args.items.now c.loop-item.item-index c.item-item.result c.loop-item-test.true c.item-item.is
