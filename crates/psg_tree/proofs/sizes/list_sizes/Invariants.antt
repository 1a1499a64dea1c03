use Rattle.std.proofs.Common.{take}
use Rattle.psg_tree.proofs.Counts.{AreBelow}
use Rattle.psg_tree.proofs.sizes.list_sizes.Given as goal

abbrev pub invariant-loop-element : goal.invariant-loop-element
invariant-loop-element l = AreBelow (take l.element-index l.elements) l.sizes
