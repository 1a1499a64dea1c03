-- Each tree in a specimen is nested less than the specimen.
use Rattle.std.specs.Prelude.{◌≤◌, ◌+◌, max, List, [], ◌∷◌, Some, None}
use Rattle.std.proofs.Common.{arith}
use denote.Param.Weighed.{most}
use Rattle.psg_deflines.specs.WrittenTrees.{WrittenTree, operator}
use Rattle.psg_deflines.specs.declared.trees.LinePart.{LinePart}
use Rattle.psg_deflines.specs.declared.trees.LinePart.TheVariants.{Tree, Name, Number, Text}
use Rattle.psg_deflines.specs.declared.trees.TreeShape.{TreeShape}
use Rattle.psg_deflines.specs.declared.trees.TreeShape.TheVariants.{Operator, List as ListOf, Place}
use Rattle.psg_deflines.specs.declared.trees.LineTree.TheDeep.{deep-LinePart, deep-TreeShape}
use Rattle.psg_deflines.specs.TreeShapes.{tree_height, with_part, with_parts, ending, list_of, tree_of}

pub most_le-list : (end : WrittenTree) (es : List WrittenTree)
    → most (λ k. tree_height k + 1) es ≤ tree_height (list_of end es)
most_le-list end [] = omega arith
most_le-list end (e ∷ es) = omega (arith, most_le-list end es)

pub part_le-height : (f : WrittenTree) (p : LinePart)
    → max (tree_height f) (deep-LinePart p) ≤ tree_height (with_part f p)
part_le-height f (Tree t) = omega arith
part_le-height f (Name n) = omega arith
part_le-height f (Number d) = omega arith
part_le-height f (Text w) = omega arith

pub parts_le-height : (f : WrittenTree) (ps : List LinePart)
    → max (tree_height f) (most deep-LinePart ps) ≤ tree_height (with_parts f ps)
parts_le-height f [] = omega arith
parts_le-height f (p ∷ ps) = omega (arith, part_le-height f p, parts_le-height (with_part f p) ps)

pub shape_le-height : (s : TreeShape) → max (deep-TreeShape s) 0 ≤ tree_height (tree_of s)
shape_le-height (Operator o parts) = omega (arith, parts_le-height (operator o) parts)
shape_le-height (ListOf elements None) = omega (arith, most_le-list (ending None) elements)
shape_le-height (ListOf elements (Some p)) = omega (arith, most_le-list (ending (Some p)) elements)
shape_le-height (Place p) = omega arith
