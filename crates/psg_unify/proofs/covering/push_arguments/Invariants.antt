use Rattle.std.proofs.Common.{◌≡◌, ◌++◌, take}
use Rattle.psg_pool.specs.Cells.{arguments_of}
use Rattle.psg_unify.specs.Covering.{facings}
use Rattle.psg_unify.proofs.covering.push_arguments.Given as goal

abbrev pub invariant-loop-k : goal.invariant-loop-k
invariant-loop-k l = l.left.items ≡ l.initial.left.items ++ facings (take l.k l.terms) (take l.k (arguments_of l.pool.cells l.id))
