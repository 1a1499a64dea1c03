-- What a change of one of a tree's nodes does to the tree's paths.
use Rattle.std.specs.Prelude.{ℕ, ◌≡◌, ◌≢◌, ◌⊎◌, ◌++◌, [], ◌∷◌, Option, Some, None}
use Rattle.psg_grammar.specs.declared.types.Kind.{Kind}
use Rattle.psg_grammar.specs.declared.types.Definition.{Definition}
use Rattle.psg_grammar.specs.Fragments.{Fragment, hole, ending, cell, operator, with_child, with_name, with_number}
use Rattle.psg_grammar.specs.Fragments.{with_text, anything, observed}
use Rattle.psg_grammar.specs.Paths.{Path, node_at, change_at, replaced}
use Rattle.psg_grammar.specs.Fillings.{Fills}
use Rattle.psg_grammar.specs.WellFormed.{WellFormed}

-- the paths part at some step, so neither leads through the other's node
abbrev pub ArePathsApart : Path → Path → Type 0
ArePathsApart [] q = ⊥
ArePathsApart (k ∷ p) [] = ⊥
ArePathsApart (k ∷ p) (j ∷ q) = (k ≢ j) ⊎ ((k ≡ j) × ArePathsApart p q)

-- a node at the path with the property
abbrev pub IsThere : (Fragment → Type 0) → Option Fragment → Type 0
IsThere P None = ⊥
IsThere P (Some t) = P t

-- What a node is without its children: its operator with its names, numbers and texts, or the length of its list and
-- its end.
abbrev pub bare : Fragment → Fragment
bare (hole p) = hole p
bare (ending l u) = ending l u
bare (cell l e r) = cell l anything (bare r)
bare (operator o) = operator o
bare (with_child f t) = with_child (bare f) anything
bare (with_name f n) = with_name (bare f) n
bare (with_number f n) = with_number (bare f) n
bare (with_text f t) = with_text (bare f) t
bare anything = anything
bare (observed f) = observed (bare f)

-- A node of a tree is replaced. At its path and below it the new node's nodes are found, above it the nodes with the
-- change made inside and all else as it was, and beside it what was there before.
pub record ChangesInPlace (f : Fragment) (path : Path) (new : Fragment) : Type 0 where
  pub here : node_at (replaced path new f) path ≡ Some new
  pub below : (q : Path) → node_at (replaced path new f) (path ++ q) ≡ node_at new q
  pub above : (p q : Path) → path ≡ p ++ q
      → IsThere (λ t. node_at (replaced path new f) p ≡ Some (replaced q new t)) (node_at f p)
  pub alike : (k : ℕ) (q : Path) (t : Fragment) → bare (replaced (k ∷ q) new t) ≡ bare t
  pub beside : (q : Path) → ArePathsApart path q → node_at (replaced path new f) q ≡ node_at f q

-- Paths of a well-formed tree stay paths of what fills it, and lead to what fills the node.
abbrev pub KeepsPaths : Definition → Type 0
KeepsPaths def = (f t : Fragment) (kind : Kind) → WellFormed def f kind → Fills def f t
    → (path : Path) (node : Fragment)
    → node_at f path ≡ Some node → IsThere (Fills def node) (node_at t path)
