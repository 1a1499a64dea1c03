use Rattle.std.proofs.Common.{◌∷◌, arith}
use Rattle.psg_covering.specs.Slots.{slot_terms}
use Rattle.psg_covering.proofs.SlotLaws.{row_end, row_more}
use Rattle.psg_covering.proofs.slots.slot_row.Goals as goal

pub loop-item-preserved : goal.loop-item-preserved
loop-item-preserved c =
    row_more c.args.items.now c.loop-item.item-index c.item-item.result c.loop-item.terms.items c.loop-item.left.now c.add_column.new.terms.items c.in_ok-left.left.now
    (c.args.head.now ∷ slot_terms c.args.items.now c.args.columns.now) c.loop-item-test.true c.item-item.is c.in_ok-left.ensures c.loop-item.invariant

pub returns : goal.returns
returns c =
    row_end c.args.items.now c.loop-item.item-index c.loop-item.terms.items c.loop-item.left.now (c.args.head.now ∷ slot_terms c.args.items.now c.args.columns.now) (omega (arith, c.loop-item-test.false)) c.loop-item.invariant
