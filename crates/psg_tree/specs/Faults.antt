-- When a tree is changed at a path, and when it is not.
use Rattle.std.specs.Prelude.{◌≡◌, None, Some}
use Rattle.psg_grammar.specs.Fragments.{Fragment}
use Rattle.psg_grammar.specs.Paths.{Path, node_at, replaced}
use Rattle.psg_tree.specs.declared.places.TreeFault.{TreeFault}
use Rattle.psg_tree.specs.declared.places.TreeFault.TheVariants as faults

-- there is a node at the path, and the tree has the new one in its place
abbrev pub IsReplaced : Fragment → Path → Fragment → Fragment → Type 0
IsReplaced f path new made = ((old : Fragment) × (node_at f path ≡ Some old)) × (made ≡ replaced path new f)

-- there is no node at the path
abbrev pub IsReplaceFault : Fragment → Path → TreeFault → Type 0
IsReplaceFault f path faults.NoNode = node_at f path ≡ None
IsReplaceFault f path faults.NotList = ⊥
IsReplaceFault f path faults.NoPlace = ⊥
IsReplaceFault f path faults.Memory = Unit {0}
