use Rattle.std.proofs.Common.{◌++◌, ◌∙◌, ap}
use Rattle.psg_specimen.specs.Tables.{slots_of}
use Rattle.psg_specimen.proofs.BareLaws.{slots_more}
use Rattle.psg_specimen.proofs.forms.slots.Goals as goal

pub loop-item-preserved : goal.loop-item-preserved
loop-item-preserved c =
    c.in_ok-add_slot.ensures ∙ ap (λ l. l ++ slots_of c.item-item.result) c.loop-item.invariant
    ∙ slots_more c.args.items.now c.loop-item.item-index c.item-item.result c.loop-item-test.true c.item-item.is
