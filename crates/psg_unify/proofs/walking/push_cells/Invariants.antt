use Rattle.std.proofs.Common.{◌≡◌, ◌++◌, reverse, map, length}
use Rattle.psg_pool.specs.declared.cells.CellId.{CellId}
use Rattle.psg_unify.specs.declared.walking.Item.TheVariants.{Visit}
use Rattle.psg_unify.proofs.walking.push_cells.Given as goal

abbrev pub invariant-loop-id : goal.invariant-loop-id
invariant-loop-id l = l.stack.items ++ reverse (map (λ (a : CellId). Visit a) l.rest) ≡ l.initial.stack.items ++ reverse (map (λ (a : CellId). Visit a) l.initial.rest)

abbrev pub decreases-loop-id : goal.decreases-loop-id
decreases-loop-id l = length l.rest
