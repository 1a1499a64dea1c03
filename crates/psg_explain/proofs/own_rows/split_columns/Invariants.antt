use Rattle.std.proofs.Common.{◌≡◌, ◌++◌, drop}
use Rattle.psg_eval.specs.OwnRows.{name_terms, slot_terms}
use Rattle.psg_explain.proofs.own_rows.split_columns.Given as goal

abbrev pub invariant-loop-item : goal.invariant-loop-item
invariant-loop-item l =
    (l.columns.slots.items ++ slot_terms (drop l.item-index l.items) (drop l.next l.terms) ≡ slot_terms l.items l.terms)
    × (l.columns.names.items ++ name_terms (drop l.item-index l.items) (drop l.next l.terms) ≡ name_terms l.items l.terms)
