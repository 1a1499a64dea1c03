use Rattle.std.proofs.Common.{◌≡◌, ◌≤◌, ◌++◌, reverse, drop}
use Rattle.psg_pool.specs.Cells.{arguments_of}
use Rattle.psg_unify.specs.Meeting.{pairs_of}
use Rattle.psg_unify.proofs.solving.push_arguments.Given as goal

abbrev pub invariant-loop-k : goal.invariant-loop-k
invariant-loop-k l =
    (l.k ≤ l.count)
    × (reverse l.left.items ≡ drop l.k (pairs_of (arguments_of l.pool.cells l.x) (arguments_of l.pool.cells l.y)) ++ reverse l.initial.left.items)

abbrev pub decreases-loop-k : goal.decreases-loop-k
decreases-loop-k l = l.k
