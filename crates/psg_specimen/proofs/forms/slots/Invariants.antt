use Rattle.std.proofs.Common.{◌≡◌, take}
use Rattle.psg_specimen.specs.Conditions.{slot_kinds}
use Rattle.psg_specimen.proofs.forms.slots.Given as goal

abbrev pub invariant-loop-item : goal.invariant-loop-item
invariant-loop-item l = l.slots.items ≡ slot_kinds (take l.item-index l.items)
