use Rattle.std.proofs.Common.{◌≡◌, ◌++◌, drop}
use Rattle.psg_eval.specs.Summaries.{slot_kinds}
use Rattle.psg_menu.proofs.blanks.kinds_of_slots.Given as goal

abbrev pub invariant-loop-item : goal.invariant-loop-item
invariant-loop-item l = l.kinds.items ++ slot_kinds l.definition (drop l.item-index l.items) ≡ slot_kinds l.definition l.items
