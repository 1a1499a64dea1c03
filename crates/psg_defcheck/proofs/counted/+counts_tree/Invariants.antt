use Rattle.std.proofs.Common.{take}
use Rattle.std.specs.List.{AllByRecursion}
use Rattle.psg_defcheck.specs.Meanings as meanings
use Rattle.psg_defcheck.specs.Parts.{CountsPart}
use Rattle.psg_defcheck.proofs.TreeLaws.{tree_measure, part_measure, parts_measure, elements_measure}
use Rattle.psg_defcheck.proofs.counted.+counts_tree.Given as goal

abbrev pub decreases-counts_part : goal.decreases-counts_part
decreases-counts_part l = part_measure l.part.now

abbrev pub decreases-counts_parts : goal.decreases-counts_parts
decreases-counts_parts l = parts_measure l.parts.now

abbrev pub decreases-counts_trees : goal.decreases-counts_trees
decreases-counts_trees l = elements_measure l.trees.now

abbrev pub decreases-counts_tree : goal.decreases-counts_tree
decreases-counts_tree l = tree_measure l.tree.now

abbrev pub invariant-counts_parts-loop-part : goal.invariant-counts_parts-loop-part
invariant-counts_parts-loop-part l = AllByRecursion (CountsPart l.scope) (take l.part-index l.parts)

abbrev pub invariant-counts_trees-loop-tree : goal.invariant-counts_trees-loop-tree
invariant-counts_trees-loop-tree l = AllByRecursion (meanings.CountsTree l.scope 0) (take l.tree-index l.trees)
