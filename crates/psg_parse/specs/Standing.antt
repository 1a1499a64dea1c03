-- What the trees that the parser keeps represent. Past the limits it keeps none, and counts the depth and the nesting
-- of brackets no further than one above the limit.
use Rattle.std.specs.Prelude.{ℕ, ◌≡◌, ◌<◌, ◌⊎◌, ◌+◌, min, max, List, [], ◌∷◌, Option, Some, None}
use Rattle.psg_grammar.specs.Fragments.{Fragment, operator}
use Rattle.psg_grammar.specs.Sizes.{depth_of}
use Rattle.psg_tree.specs.Shapes.{with_part, with_parts}
use Rattle.psg_tree.specs.declared.tree.Part.{Part}
use Rattle.psg_parse.specs.declared.standing.Grown.{Grown}
use Rattle.psg_parse.specs.declared.standing.Built.{Built}
use Rattle.psg_parse.specs.declared.standing.Listed.{Listed}

-- one of the two is past its limit
abbrev pub IsPast : Fragment → ℕ → Type 0
IsPast f nesting = (200 < depth_of f) ⊎ (400 < nesting)

-- the tree, or none where it is past a limit
abbrev pub IsKept : Option Fragment → Fragment → ℕ → Type 0
IsKept None f nesting = IsPast f nesting
IsKept (Some t) f nesting = t ≡ f

-- the operator with the parts is the tree, or no parts are kept where it is past a limit
abbrev pub AreKept : Option (List Part) → ℕ → Fragment → ℕ → Type 0
AreKept None op f nesting = IsPast f nesting
AreKept (Some parts) op f nesting = with_parts (operator op) parts ≡ f

-- with one more part, if there is one
abbrev pub with_some : Fragment → Option Part → Fragment
with_some f None = f
with_some f (Some part) = with_part f part

-- the elements, the last one first
abbrev pub reversed : List Fragment → List Fragment → List Fragment
reversed before [] = before
reversed before (e ∷ rest) = reversed (e ∷ before) rest

-- the depth of a list of these elements
abbrev pub deepest : List Fragment → ℕ
deepest [] = 1
deepest (e ∷ before) = max (depth_of e + 1) (deepest before)

-- the elements, or none where the list is past a limit
abbrev pub ElementsKept : Option (List Fragment) → List Fragment → ℕ → Type 0
ElementsKept None before nesting = (200 < deepest before) ⊎ (400 < nesting)
ElementsKept (Some elements) before nesting = reversed [] elements ≡ before

-- a finished tree represents the fragment with the nesting
pub record IsTree (g : Grown) (f : Fragment) (nesting : ℕ) : Type 0 where
  pub depth : g.depth ≡ min (depth_of f) 201
  pub brackets : g.nesting ≡ min nesting 401
  pub kept : IsKept g.tree f nesting

-- an operator's tree of which some parts were read
pub record IsPartly (b : Built) (f : Fragment) (nesting : ℕ) : Type 0 where
  pub depth : b.depth ≡ min (depth_of f) 201
  pub brackets : b.nesting ≡ min nesting 401
  pub kept : AreKept b.parts b.op f nesting

-- the elements of a list that were read, the last one first
pub record AreElements (l : Listed) (before : List Fragment) (nesting : ℕ) : Type 0 where
  pub depth : l.depth ≡ min (deepest before) 201
  pub brackets : l.nesting ≡ min nesting 401
  pub kept : ElementsKept l.elements before nesting
