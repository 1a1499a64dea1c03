use Rattle.std.proofs.Common.{◌≡◌, ◌++◌, take}
use Rattle.psg_unify.specs.Covering.{facings}
use Rattle.psg_unify.proofs.covering.push_row.Given as goal

abbrev pub invariant-loop-k : goal.invariant-loop-k
invariant-loop-k l = l.left.items ≡ l.initial.left.items ++ facings (take l.k l.terms) (take l.k l.cells)
