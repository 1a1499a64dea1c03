use Rattle.std.proofs.Common.{◌≡◌, ◌∷◌, take}
use Rattle.psg_covering.proofs.uncovered.whole_row.Given as goal

abbrev pub invariant-loop-column : goal.invariant-loop-column
invariant-loop-column l = l.terms.items ≡ l.fn.head ∷ take l.column-index l.columns
