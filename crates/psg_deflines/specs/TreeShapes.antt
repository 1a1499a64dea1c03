-- What the program's specimens of a line mean.
use Rattle.std.specs.Prelude.{ℕ, ◌+◌, max, List, [], ◌∷◌, Option, Some, None}
use Rattle.psg_deflines.specs.WrittenTrees.{WrittenTree, operator, with_tree, with_name, with_number, with_text}
use Rattle.psg_deflines.specs.WrittenTrees.{list_end, list_rest, element, place}
use Rattle.psg_deflines.specs.declared.trees.LinePlace.{LinePlace}
use Rattle.psg_deflines.specs.declared.trees.LinePart.{LinePart}
use Rattle.psg_deflines.specs.declared.trees.LinePart.TheVariants.{Tree, Name, Number, Text}
use Rattle.psg_deflines.specs.declared.trees.TreeShape.{TreeShape}
use Rattle.psg_deflines.specs.declared.trees.TreeShape.TheVariants.{Operator, List as ListOf, Place}

-- an operator with one more part
abbrev pub with_part : WrittenTree → LinePart → WrittenTree
with_part f (Tree t) = with_tree f t
with_part f (Name n) = with_name f n
with_part f (Number d) = with_number f d
with_part f (Text w) = with_text f w

-- the specimen with these parts, one after the other
abbrev pub with_parts : WrittenTree → List LinePart → WrittenTree
with_parts f [] = f
with_parts f (p ∷ rest) = with_parts (with_part f p) rest

-- the end of a list, with the place of further elements if there is one
abbrev pub ending : Option LinePlace → WrittenTree
ending None = list_end
ending (Some p) = list_rest p.kind p.term

-- a list of elements, and then its end
abbrev pub list_of : WrittenTree → List WrittenTree → WrittenTree
list_of end [] = end
list_of end (e ∷ rest) = element e (list_of end rest)

-- the specimen that the program's specimen is
abbrev pub tree_of : TreeShape → WrittenTree
tree_of (Operator o parts) = with_parts (operator o) parts
tree_of (ListOf elements rest) = list_of (ending rest) elements
tree_of (Place p) = place p.kind p.term

-- how far the specimen is nested, by lists and operators
abbrev pub tree_height : WrittenTree → ℕ
tree_height (operator o) = 0
tree_height (with_tree f t) = max (tree_height f) (tree_height t + 1)
tree_height (with_name f n) = tree_height f
tree_height (with_number f d) = tree_height f
tree_height (with_text f w) = tree_height f
tree_height list_end = 0
tree_height (list_rest l t) = 0
tree_height (element e r) = max (tree_height e + 1) (tree_height r)
tree_height (place k t) = 0
