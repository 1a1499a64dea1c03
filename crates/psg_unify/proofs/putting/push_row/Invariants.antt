use Rattle.std.proofs.Common.{◌≡◌, ◌++◌, reverse, length}
use Rattle.psg_unify.proofs.putting.push_row.Given as goal

abbrev pub invariant-loop-term : goal.invariant-loop-term
invariant-loop-term l = l.stack.items ++ reverse l.rest ≡ l.initial.stack.items ++ reverse l.initial.rest

abbrev pub decreases-loop-term : goal.decreases-loop-term
decreases-loop-term l = length l.rest
