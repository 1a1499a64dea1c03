use Rattle.std.proofs.Common.{◌≡◌, ◌+◌, ◌*◌, ◌++◌, [], take, codes, string_bytes}
use Rattle.psg_deflines.specs.WrittenTrees.{operator, tree_parts}
use Rattle.psg_deflines.specs.TreeShapes.{tree_height, with_part}
use Rattle.psg_deflines.specs.LineTexts.{behind, separated, part_parts}
use Rattle.psg_deflines.proofs.part_writing.+write_tree.Given as goal

abbrev pub decreases-write_part : goal.decreases-write_part
decreases-write_part l = 2 * tree_height (with_part (operator []) l.part.now)

abbrev pub decreases-write_tree : goal.decreases-write_tree
decreases-write_tree l = 2 * tree_height l.tree.now + 1

abbrev pub invariant-write_tree-loop-i : goal.invariant-write_tree-loop-i
invariant-write_tree-loop-i l = string_bytes l.out ≡ string_bytes l.initial.out ++ behind (separated (codes "(") part_parts (take l.i l.parts))

abbrev pub invariant-write_tree-loop-i-2 : goal.invariant-write_tree-loop-i-2
invariant-write_tree-loop-i-2 l = string_bytes l.out ≡ string_bytes l.initial.out ++ behind (separated (codes "[") tree_parts (take l.i l.elements))
