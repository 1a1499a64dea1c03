use Rattle.psg_covering.proofs.SlotLaws.{moved_first, passed_declares, passed_other, passed_refers}
use Rattle.psg_covering.proofs.slots.add_column.Goals as goal

pub returns-in_ok-left-in-Slot : goal.returns-in_ok-left-in-Slot
returns-in_ok-left-in-Slot c more =
    moved_first c.args.item.now c.in-Slot.field-0 more c.args.terms.now.items c.args.columns.now c.add_first.new.terms.items c.in_ok-left-in-Slot.left.now c.in-Slot.is c.in_ok-left-in-Slot.ensures

pub returns-in-Refers : goal.returns-in-Refers
returns-in-Refers c more = passed_refers c.args.item.now c.in-Refers.field-0 more c.args.terms.now.items c.args.columns.now c.without_first.result.now c.in-Refers.is c.without_first.ensures

pub returns-in-Declares : goal.returns-in-Declares
returns-in-Declares c more = passed_declares c.args.item.now c.in-Declares.field-0 more c.args.terms.now.items c.args.columns.now c.without_first-in-Declares.result.now c.in-Declares.is c.without_first-in-Declares.ensures

pub returns-in_default : goal.returns-in_default
returns-in_default c more = passed_other c.args.item.now more c.args.terms.now.items c.args.columns.now c.in_default.not-Slot c.in_default.not-Refers c.in_default.not-Declares
