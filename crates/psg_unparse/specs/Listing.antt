-- That the nodes of a tree are listed, each once and in the order of their paths, and that its row is cut at each of
-- them.
use Rattle.std.specs.Prelude.{ℕ, ◌≡◌, ◌<◌, ◌⊎◌, ◌++◌, List, [], ◌∷◌, Some, slice_get}
use Rattle.std.specs.List.{AllByRecursion}
use Rattle.psg_grammar.specs.declared.types.Definition.{Definition}
use Rattle.psg_grammar.specs.Fragments.{Fragment}
use Rattle.psg_grammar.specs.Paths.{Path, node_at}
use Rattle.psg_unparse.specs.Rows.{row}
use Rattle.psg_unparse.specs.Spots.{Placed, placed_in, IsPlacedAt}
use Rattle.psg_unparse.specs.declared.spans.Span.{Span}

-- the first path leads along the second one, which goes on, or has the lower step where they part
abbrev pub IsEarlier : Path → Path → Type 0
IsEarlier [] [] = ⊥
IsEarlier [] (m ∷ path) = Unit {0}
IsEarlier (k ∷ steps) [] = ⊥
IsEarlier (k ∷ steps) (m ∷ path) = (k < m) ⊎ ((k ≡ m) × IsEarlier steps path)

-- of two spans the one listed first has the earlier path
abbrev pub AreInOrder : List Span → Type 0
AreInOrder spans =
    (j k : ℕ) (s t : Span) → j < k → slice_get spans j ≡ Some s → slice_get spans k ≡ Some t → IsEarlier s.path t.path

module _ (def : Definition) (f : Fragment) where
  -- what is listed for a path is the node there, and each node is listed at one place
  pub record IsListing : Type 0 where
    pub nodes : (path : Path) (p : Placed) → IsPlacedAt def f path p → node_at f path ≡ Some p.node
    pub all : (path : Path) (t : Fragment) → node_at f path ≡ Some t → (p : Placed) × IsPlacedAt def f path p
    pub once : (j k : ℕ) (p q : Placed) → slice_get (placed_in def f) j ≡ Some p
        → slice_get (placed_in def f) k ≡ Some q → p.spot.path ≡ q.spot.path → j ≡ k
    pub order : (j k : ℕ) (p q : Placed) → j < k → slice_get (placed_in def f) j ≡ Some p
        → slice_get (placed_in def f) k ≡ Some q → IsEarlier p.spot.path q.spot.path

  -- the row before a node, its own row and the row after it are the whole row
  abbrev pub IsCutAtEach : Type 0
  IsCutAtEach =
      AllByRecursion (λ (p : Placed). p.spot.before ++ (row def p.node ++ p.spot.behind) ≡ row def f) (placed_in def f)
