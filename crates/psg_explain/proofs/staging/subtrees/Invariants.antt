use Rattle.std.proofs.Common.{◌≡◌, ◌++◌, drop}
use Rattle.psg_tree.specs.Shapes.{subtrees}
use Rattle.psg_explain.proofs.staging.subtrees.Given as goal

abbrev pub invariant-loop-part : goal.invariant-loop-part
invariant-loop-part l = l.found.items ++ subtrees (drop l.part-index l.parts) ≡ subtrees l.parts
