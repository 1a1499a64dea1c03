use Rattle.std.proofs.Common.{◌≡◌, ◌++◌, drop}
use Rattle.psg_explain.proofs.given.push_all.Given as goal

abbrev pub invariant-loop-term : goal.invariant-loop-term
invariant-loop-term l = l.terms.items ++ drop l.term-index l.row ≡ l.fn.terms.items ++ l.row
