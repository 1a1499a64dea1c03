-- The sizes that are kept with a node.
use Rattle.std.specs.Prelude.{◌≡◌, ◌+◌, ◌-◌, ◌^◌, min, max}
use Rattle.psg_grammar.specs.Fragments.{Fragment}
use Rattle.psg_grammar.specs.Sizes.{nodes_of, depth_of, longest_of}
use Rattle.psg_tree.specs.declared.sizes.Sizes.{Sizes}
use Rattle.psg_tree.specs.declared.tree.Measured.{Measured}
use Rattle.psg_tree.specs.Shapes.{tree_of}

-- the numbers are those of the fragment, as far as they fit
pub record AreSizesOf (f : Fragment) (s : Sizes) : Type 0 where
  pub nodes_right : s.nodes ≡ min (nodes_of f) (2 ^ 64 - 1)
  pub depth_right : s.depth ≡ min (depth_of f) (2 ^ 64 - 1)
  pub longest_right : s.longest ≡ min (longest_of f) (2 ^ 64 - 1)

-- a child was added
pub record IsMore (node child whole : Sizes) : Type 0 where
  pub nodes_more : whole.nodes ≡ min (node.nodes + child.nodes) (2 ^ 64 - 1)
  pub depth_more : whole.depth ≡ max node.depth (min (child.depth + 1) (2 ^ 64 - 1))
  pub longest_more : whole.longest ≡ max node.longest child.longest

-- the fragment of a node, without its sizes
abbrev pub measured_tree : Measured → Fragment
measured_tree m = tree_of m.shape

-- the sizes that are kept are those of the tree
abbrev pub IsMeasured : Measured → Type 0
IsMeasured m = AreSizesOf (measured_tree m) m.sizes
