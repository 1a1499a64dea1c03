use Rattle.std.proofs.Common.{take}
use Rattle.std.specs.List.{AllByRecursion}
use Rattle.psg_tree.specs.Reaching.{chain_phyla, IsClosedItem}
use Rattle.psg_tree.proofs.reach.items_step.Given as goal

abbrev pub invariant-loop-item : goal.invariant-loop-item
invariant-loop-item l = AllByRecursion (IsClosedItem l.definition (chain_phyla l.found)) (take l.item-index l.items)
