use Rattle.std.proofs.Common.{take}
use Rattle.std.specs.List.{AllByRecursion}
use Rattle.psg_defcheck.specs.Meanings as meanings
use Rattle.psg_defcheck.specs.Parts.{KnowsPart}
use Rattle.psg_defcheck.proofs.TreeLaws.{tree_measure, part_measure, parts_measure, elements_measure}
use Rattle.psg_defcheck.proofs.known.+knows_tree.Given as goal

abbrev pub decreases-knows_part : goal.decreases-knows_part
decreases-knows_part l = part_measure l.part.now

abbrev pub decreases-knows_parts : goal.decreases-knows_parts
decreases-knows_parts l = parts_measure l.parts.now

abbrev pub decreases-knows_trees : goal.decreases-knows_trees
decreases-knows_trees l = elements_measure l.trees.now

abbrev pub decreases-knows_tree : goal.decreases-knows_tree
decreases-knows_tree l = tree_measure l.tree.now

abbrev pub invariant-knows_parts-loop-part : goal.invariant-knows_parts-loop-part
invariant-knows_parts-loop-part l = AllByRecursion (KnowsPart l.scope) (take l.part-index l.parts)

abbrev pub invariant-knows_trees-loop-tree : goal.invariant-knows_trees-loop-tree
invariant-knows_trees-loop-tree l = AllByRecursion (meanings.KnowsTree l.scope) (take l.tree-index l.trees)
