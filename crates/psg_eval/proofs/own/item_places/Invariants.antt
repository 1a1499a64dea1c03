use Rattle.psg_eval.proofs.ItemSteps.{IsFoundUpTo}
use Rattle.psg_eval.proofs.own.item_places.Given as goal

abbrev pub invariant-loop-item : goal.invariant-loop-item
invariant-loop-item l = IsFoundUpTo l.items l.names l.item-index l.column l.next l.found.positions.items l.found.names.items l.found.slots.items
