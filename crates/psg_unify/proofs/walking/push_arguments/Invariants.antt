use Rattle.std.proofs.Common.{◌≡◌, ◌≤◌, ◌++◌, reverse, map, drop}
use Rattle.psg_pool.specs.Cells.{arguments_of}
use Rattle.psg_pool.specs.declared.cells.CellId.{CellId}
use Rattle.psg_unify.specs.declared.walking.Item.TheVariants.{Visit}
use Rattle.psg_unify.proofs.walking.push_arguments.Given as goal

abbrev pub invariant-loop-k : goal.invariant-loop-k
invariant-loop-k l =
    (l.k ≤ l.count)
    × (reverse l.stack.items ≡ map (λ (a : CellId). Visit a) (drop l.k (arguments_of l.pool.cells l.id)) ++ reverse l.initial.stack.items)

abbrev pub decreases-loop-k : goal.decreases-loop-k
decreases-loop-k l = l.k
