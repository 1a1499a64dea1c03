use Rattle.std.proofs.Common.{sym, ◌∙◌}
use Rattle.psg_completing.proofs.Slots.{no_slot, slot_here, slots_next}
use Rattle.psg_completing.proofs.wanted.slot_place.Goals as goal

pub loop-place-preserved : goal.loop-place-preserved
loop-place-preserved c =
    slots_next c.as_slice-items.result.now c.loop-place.place c.index-items-place.result c.args.number c.loop-place.left _
    c.is_slot-slot.result c.loop-place-test.true c.index-items-place.is c.is_slot-slot.ensures
    (sym c.is_due-due.ensures ∙ c.if-due.false) c.left_after-left.ensures c.loop-place.invariant

pub returns-then-due-clause-some : goal.returns-then-due-clause-some
returns-then-due-clause-some c =
    slot_here c.args.operator.now c.as_slice-items.result.now c.loop-place.place c.index-items-place.result c.args.number
    c.loop-place.left c.is_slot-slot.result c.as_slice-items.ensures c.loop-place-test.true c.index-items-place.is
    c.is_slot-slot.ensures (sym c.is_due-due.ensures ∙ c.if-due.true) c.loop-place.invariant

pub returns-clause-none : goal.returns-clause-none
returns-clause-none c =
    no_slot c.args.operator.now c.as_slice-items.result.now c.loop-place.place c.args.number c.loop-place.left
    c.as_slice-items.ensures c.loop-place-test.false c.loop-place.invariant
