-- The mark of a fragment, and the nodes at which it goes wrong.
use Rattle.std.specs.Prelude.{ℕ, ◌≡◌, ◌+◌, List, [], ◌∷◌, ◌++◌, length, map}
use Rattle.std.specs.List.{AllByRecursion}
use Rattle.psg_grammar.specs.declared.types.Definition.{Definition}
use Rattle.psg_grammar.specs.Fragments.{Fragment, hole, ending, cell, operator, with_child, with_name, with_number}
use Rattle.psg_grammar.specs.Fragments.{with_text, anything, observed, children_of}
use Rattle.psg_grammar.specs.Paths.{Path}
use Rattle.psg_grammar.specs.Open.{IsOpen}

-- a node with its path
pub record Located : Type 0 where
  pub path : Path
  pub node : Fragment

-- All nodes with their paths, a node before its children, children in order. nodes_below has those of the children or
-- elements; the first element has the number n.
abbrev mutual
  pub nodes_from : Path → Fragment → List Located
  nodes_from path (hole p) = record { path = path; node = hole p } ∷ []
  nodes_from path (ending l u) = record { path = path; node = ending l u } ∷ []
  nodes_from path (cell l e r) =
      record { path = path; node = cell l e r } ∷ (nodes_from (path ++ 0 ∷ []) e ++ nodes_below path 1 r)
  nodes_from path (operator o) = record { path = path; node = operator o } ∷ []
  nodes_from path (with_child f t) =
      record { path = path; node = with_child f t } ∷
      (nodes_below path 0 f ++ nodes_from (path ++ length (children_of f) ∷ []) t)
  nodes_from path (with_name f n) = record { path = path; node = with_name f n } ∷ nodes_below path 0 f
  nodes_from path (with_number f n) = record { path = path; node = with_number f n } ∷ nodes_below path 0 f
  nodes_from path (with_text f t) = record { path = path; node = with_text f t } ∷ nodes_below path 0 f
  nodes_from path anything = record { path = path; node = anything } ∷ []
  nodes_from path (observed f) = record { path = path; node = observed f } ∷ nodes_below path 0 f

  pub nodes_below : Path → ℕ → Fragment → List Located
  nodes_below path n (hole p) = []
  nodes_below path n (ending l u) = []
  nodes_below path n (cell l e r) = nodes_from (path ++ n ∷ []) e ++ nodes_below path (n + 1) r
  nodes_below path n (operator o) = []
  nodes_below path n (with_child f t) = nodes_below path n f ++ nodes_from (path ++ length (children_of f) ∷ []) t
  nodes_below path n (with_name f x) = nodes_below path n f
  nodes_below path n (with_number f x) = nodes_below path n f
  nodes_below path n (with_text f x) = nodes_below path n f
  nodes_below path n anything = []
  nodes_below path n (observed f) = nodes_below path n f

-- the members of the first list that have the property, in its order
pub data Chosen {X : Type 0} (P : X → Type 0) : List X → List X → Type 0 where
  nothing : Chosen P [] []
  taken : {x : X} {xs ys : List X} → P x → Chosen P xs ys → Chosen P (x ∷ xs) (x ∷ ys)
  passed : {x : X} {xs ys : List X} → (P x → ⊥) → Chosen P xs ys → Chosen P (x ∷ xs) ys

-- the mark of a fragment: good, or wrong with the paths of its culprits
pub data Mark : Type 0 where
  good : Mark
  wrong : (culprits : List Path) → Mark

-- the path of a node
abbrev pub path_of : Located → Path
path_of l = l.path

-- For what counts as good: wrong by itself, while the subtree of each child is good.
module _ (IsGood : Fragment → Type 0) where
  abbrev pub IsCulpritBy : Located → Type 0
  IsCulpritBy l = (IsGood l.node → ⊥) × AllByRecursion IsGood (children_of l.node)

  -- the paths of the culprits among the nodes
  abbrev pub AreCulpritsBy : List Located → List Path → Type 0
  AreCulpritsBy nodes paths = (found : List Located) × Chosen IsCulpritBy nodes found × (paths ≡ map path_of found)

  abbrev pub IsMarkBy : Fragment → Mark → Type 0
  IsMarkBy f good = IsGood f
  IsMarkBy f (wrong culprits) = (IsGood f → ⊥) × AreCulpritsBy (nodes_from [] f) culprits

-- the node is wrong by the open judgement, and its children are not
abbrev pub IsCulprit : Definition → Located → Type 0
IsCulprit def l = IsCulpritBy (IsOpen def) l

-- the paths are those of the culprits by the open judgement, in the order of the nodes
abbrev pub AreCulprits : Definition → List Located → List Path → Type 0
AreCulprits def nodes paths = AreCulpritsBy (IsOpen def) nodes paths

-- the mark of the fragment by the open judgement
abbrev pub IsMark : Definition → Fragment → Mark → Type 0
IsMark def f mark = IsMarkBy (IsOpen def) f mark
