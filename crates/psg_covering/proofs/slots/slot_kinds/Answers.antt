use Rattle.std.proofs.Common.{◌++◌, ◌∙◌, ap}
use Rattle.psg_covering.specs.Slots.{kinds_in}
use Rattle.psg_covering.proofs.SlotLaws.{kinds_more}
use Rattle.psg_covering.proofs.slots.slot_kinds.Goals as goal

pub loop-item-preserved : goal.loop-item-preserved
loop-item-preserved c =
    c.in_ok-add_kind.ensures ∙ ap (λ l. l ++ kinds_in c.item-item.result) c.loop-item.invariant
    ∙ kinds_more c.args.items.now c.loop-item.item-index c.item-item.result c.loop-item-test.true c.item-item.is
