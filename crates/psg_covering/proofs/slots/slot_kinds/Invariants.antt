use Rattle.std.proofs.Common.{◌≡◌, take}
use Rattle.psg_covering.specs.Slots.{slot_kinds}
use Rattle.psg_covering.proofs.slots.slot_kinds.Given as goal

abbrev pub invariant-loop-item : goal.invariant-loop-item
invariant-loop-item l = l.kinds.items ≡ slot_kinds (take l.item-index l.items)
