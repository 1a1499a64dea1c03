use Rattle.std.proofs.Common.{take}
use Rattle.std.specs.List.{AllByRecursion}
use Rattle.psg_deflines.specs.Forms.{IsFixedItem}
use Rattle.psg_deflines.proofs.entries.are_fixed_items.Given as goal

abbrev pub invariant-loop-item : goal.invariant-loop-item
invariant-loop-item l = AllByRecursion IsFixedItem (take l.item-index l.items)
