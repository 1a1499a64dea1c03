use Rattle.std.proofs.Common.{◌≡◌, ◌∷◌, take}
use Rattle.psg_explain.proofs.casing.whole.Given as goal

abbrev pub invariant-loop-term : goal.invariant-loop-term
invariant-loop-term l = l.terms.items ≡ l.row.head ∷ take l.term-index l.term-items
