use Rattle.std.proofs.Common.{◌≡◌, ◌++◌, ◌∷◌, drop}
use Rattle.psg_covering.specs.Slots.{slot_terms}
use Rattle.psg_covering.proofs.slots.slot_row.Given as goal

abbrev pub invariant-loop-item : goal.invariant-loop-item
invariant-loop-item l = l.terms.items ++ slot_terms (drop l.item-index l.items) l.left ≡ l.fn.head ∷ slot_terms l.items l.fn.columns
