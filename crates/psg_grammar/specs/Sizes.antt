-- How many nodes a tree has, how deep it is and how long its lists are.
use Rattle.std.specs.Prelude.{ℕ, ◌<◌, ◌+◌, ◌⊎◌, max, length}
use Rattle.psg_grammar.specs.Fragments.{Fragment, hole, ending, cell, operator, with_child, with_name, with_number}
use Rattle.psg_grammar.specs.Fragments.{with_text, anything, observed, children_of}

-- Nodes are placeholders, operators and lists. A list is counted at its end.
abbrev pub nodes_of : Fragment → ℕ
nodes_of (hole p) = 1
nodes_of (ending l u) = 1
nodes_of (cell l e r) = nodes_of e + nodes_of r
nodes_of (operator o) = 1
nodes_of (with_child f t) = nodes_of f + nodes_of t
nodes_of (with_name f n) = nodes_of f
nodes_of (with_number f n) = nodes_of f
nodes_of (with_text f t) = nodes_of f
nodes_of anything = 1
nodes_of (observed f) = nodes_of f

-- a leaf has depth 1
abbrev pub depth_of : Fragment → ℕ
depth_of (hole p) = 1
depth_of (ending l u) = 1
depth_of (cell l e r) = max (depth_of e + 1) (depth_of r)
depth_of (operator o) = 1
depth_of (with_child f t) = max (depth_of f) (depth_of t + 1)
depth_of (with_name f n) = depth_of f
depth_of (with_number f n) = depth_of f
depth_of (with_text f t) = depth_of f
depth_of anything = 1
depth_of (observed f) = depth_of f

-- how many elements the longest list has, 0 if there is none
abbrev pub longest_of : Fragment → ℕ
longest_of (hole p) = 0
longest_of (ending l u) = 0
longest_of (cell l e r) = max (length (children_of (cell l e r))) (max (longest_of e) (longest_of r))
longest_of (operator o) = 0
longest_of (with_child f t) = max (longest_of f) (longest_of t)
longest_of (with_name f n) = longest_of f
longest_of (with_number f n) = longest_of f
longest_of (with_text f t) = longest_of f
longest_of anything = 0
longest_of (observed f) = longest_of f

-- some list has too many elements
abbrev pub HasLongList : Fragment → Type 0
HasLongList (cell l e r) = (4096 < length (children_of (cell l e r))) ⊎ (HasLongList e ⊎ HasLongList r)
HasLongList (with_child f t) = HasLongList f ⊎ HasLongList t
HasLongList (with_name f m) = HasLongList f
HasLongList (with_number f m) = HasLongList f
HasLongList (with_text f m) = HasLongList f
HasLongList (observed f) = HasLongList f
HasLongList (hole p) = ⊥
HasLongList (ending l u) = ⊥
HasLongList (operator o) = ⊥
HasLongList anything = ⊥

-- the fragment is past the limit on nodes, or on the elements of a list
abbrev pub IsBig : Fragment → Type 0
IsBig f = (20000 < nodes_of f) ⊎ HasLongList f

-- the fragment is past the limit on depth
abbrev pub IsDeep : Fragment → Type 0
IsDeep f = 200 < depth_of f
