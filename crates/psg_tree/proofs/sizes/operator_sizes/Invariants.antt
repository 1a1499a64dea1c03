use Rattle.std.proofs.Common.{ℕ, take}
use Rattle.psg_grammar.specs.Fragments.{operator}
use Rattle.psg_tree.specs.Shapes.{with_parts}
use Rattle.psg_tree.specs.TreeSizes.{AreSizesOf}
use Rattle.psg_tree.proofs.sizes.operator_sizes.Given as goal

abbrev pub invariant-loop-part : goal.invariant-loop-part
invariant-loop-part l = (o : ℕ) → AreSizesOf (with_parts (operator o) (take l.part-index l.parts)) l.sizes
