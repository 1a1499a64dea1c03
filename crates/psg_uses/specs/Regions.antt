-- The regions around a node, and which declaration a name is linked to.
use Rattle.std.specs.Prelude.{ℕ, zero, suc, ◌&&◌, ◌||◌, not, Bool, true, false, cond, List, [], ◌∷◌, ◌++◌, length, take}
use Rattle.std.specs.Prelude.{Option, Some, None}
use Rattle.psg_grammar.specs.declared.types.Definition.{Definition}
use Rattle.psg_grammar.specs.Fragments.{Fragment}
use Rattle.psg_grammar.specs.Lookups.{is_scope}
use Rattle.psg_grammar.specs.Paths.{Path, node_at}
use Rattle.psg_grammar.specs.Regions.{unfinished_inside}
use Rattle.psg_uses.specs.declared.names.Written.{Written}
use Rattle.psg_uses.specs.Naming.{is_same_key, is_same_place, names_below}

-- the paths of the first n steps and fewer, the longest first
abbrev pub ways_from : Path → ℕ → List Path
ways_from path zero = [] ∷ []
ways_from path (suc n) = take (suc n) path ∷ ways_from path n

-- the paths of the nodes on the way to it, the longest first
abbrev pub ways_up : Path → List Path
ways_up path = ways_from path (length path)

abbrev pub is_root : Path → Bool
is_root [] = true
is_root (k ∷ path) = false

abbrev pub begins_with : Definition → Path → Option Fragment → Bool
begins_with def path None = false
begins_with def path (Some g) = is_scope def g || is_root path

-- the node at the path begins a region: it is a scope operator, or the root
abbrev pub begins_region : Definition → Fragment → Path → Bool
begins_region def f path = begins_with def path (node_at f path)

abbrev pub declared_with : Definition → Path → Option Fragment → List Written
declared_with def path None = []
declared_with def path (Some g) = names_below def true false path 0 g

-- the names that are declared in the region that begins there
abbrev pub declared_of : Definition → Fragment → Path → List Written
declared_of def f path = cond (begins_region def f path) (declared_with def path (node_at f path)) []

-- those of all regions around the node, of the innermost first
abbrev pub declared_on : Definition → Fragment → List Path → List Written
declared_on def f [] = []
declared_on def f (q ∷ qs) = declared_of def f q ++ declared_on def f qs

-- it has the key of the name, at another place
abbrev pub is_other : Written → Written → Bool
is_other w d = is_same_key d w && not (is_same_place d w)

-- the first of them that is such
abbrev pub first_other : Written → List Written → Option Written
first_other w [] = None
first_other w (d ∷ ds) = cond (is_other w d) (Some d) (first_other w ds)

-- the other declaration of the name in the innermost region around that has one
abbrev pub declaration_of : Definition → Fragment → Written → Option Written
declaration_of def f w = first_other w (declared_on def f (ways_up w.path))

-- the first of the paths that begins a region
abbrev pub first_region : Definition → Fragment → List Path → Path
first_region def f [] = []
first_region def f (q ∷ qs) = cond (begins_region def f q) q (first_region def f qs)

-- the path of the region around the node
abbrev pub region_of : Definition → Fragment → Path → Path
region_of def f path = first_region def f (ways_up path)

-- the other declaration of the name, which is declared itself, in its own region
abbrev pub declared_again : Definition → Fragment → Written → Option Written
declared_again def f w = first_other w (declared_of def f (region_of def f w.path))

abbrev pub is_unfinished_with : Definition → ℕ → Option Fragment → Bool
is_unfinished_with def space None = false
is_unfinished_with def space (Some g) = unfinished_inside def space g

-- a list of a region around that is unfinished may still declare in the space
abbrev pub may_be_declared : Definition → Fragment → ℕ → List Path → Bool
may_be_declared def f space [] = false
may_be_declared def f space (q ∷ qs) =
    (begins_region def f q && is_unfinished_with def space (node_at f q)) || may_be_declared def f space qs
