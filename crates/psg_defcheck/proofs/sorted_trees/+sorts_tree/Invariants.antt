use Rattle.std.proofs.Common.{[], true, take}
use Rattle.std.specs.List.{AllByRecursion}
use Rattle.psg_defcheck.specs.Meanings as meanings
use Rattle.psg_defcheck.specs.Sorting.{Narrows, PartsStand, part_places_told, place_told}
use Rattle.psg_defcheck.proofs.TreeLaws.{tree_measure, part_measure, parts_measure, elements_measure}
use Rattle.psg_defcheck.proofs.sorted_trees.+sorts_tree.Given as goal

abbrev pub decreases-sorts_part : goal.decreases-sorts_part
decreases-sorts_part l = part_measure l.part.now

abbrev pub decreases-sorts_parts : goal.decreases-sorts_parts
decreases-sorts_parts l = parts_measure l.parts.now

abbrev pub decreases-sorts_trees : goal.decreases-sorts_trees
decreases-sorts_trees l = elements_measure l.trees.now

abbrev pub decreases-sorts_tree : goal.decreases-sorts_tree
decreases-sorts_tree l = tree_measure l.tree.now

abbrev pub invariant-sorts_parts-loop-i : goal.invariant-sorts_parts-loop-i
invariant-sorts_parts-loop-i l = Narrows (λ of. PartsStand l.scope of (part_places_told (take l.i l.places)) (take l.i l.parts)) l.initial.sorts l.sorts true

abbrev pub invariant-sorts_trees-loop-tree : goal.invariant-sorts_trees-loop-tree
invariant-sorts_trees-loop-tree l = Narrows (λ of. AllByRecursion (meanings.SortsTree l.scope of [] (place_told l.fn.place)) (take l.tree-index l.trees)) l.initial.sorts l.sorts true
