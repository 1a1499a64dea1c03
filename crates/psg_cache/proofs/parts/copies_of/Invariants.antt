use Rattle.std.proofs.Common.{◌≡◌, take}
use Rattle.psg_cache.proofs.parts.copies_of.Given as goal

abbrev pub invariant-loop-tree : goal.invariant-loop-tree
invariant-loop-tree l = l.found.items ≡ take l.tree-index l.trees
