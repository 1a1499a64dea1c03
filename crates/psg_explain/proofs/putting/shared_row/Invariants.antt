use Rattle.std.proofs.Common.{◌≡◌, take}
use Rattle.psg_explain.proofs.putting.shared_row.Given as goal

abbrev pub invariant-loop-term : goal.invariant-loop-term
invariant-loop-term l = l.copies.items ≡ take l.term-index l.row
