use Rattle.std.proofs.Common.{◌≡◌, ◌≤◌, take, length}
use Rattle.psg_tree.specs.Shapes.{subtrees}
use Rattle.psg_explain.proofs.relating.count_trees.Given as goal

abbrev pub invariant-loop-i : goal.invariant-loop-i
invariant-loop-i l = (l.count ≡ length (subtrees (take l.i l.parts))) × (l.count ≤ l.i)
