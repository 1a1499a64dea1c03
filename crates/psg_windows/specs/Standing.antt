-- Cursors that lead to nodes.
use Rattle.std.specs.Prelude.{◌≡◌, Some}
use Rattle.psg_grammar.specs.Fragments.{Fragment, ending, cell}
use Rattle.psg_grammar.specs.Paths.{Path, node_at}

-- the path leads to a node of the fragment
abbrev pub Leads : Fragment → Path → Type 0
Leads f c = (t : Fragment) × (node_at f c ≡ Some t)

-- a list, each of whose rests is a list: so is each list of a well-formed tree
abbrev pub IsChain : Fragment → Type 0
IsChain (ending l u) = Unit {0}
IsChain (cell l e r) = IsChain r
IsChain _ = ⊥
