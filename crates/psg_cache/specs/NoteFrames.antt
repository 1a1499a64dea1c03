-- The frames around a place of a noted tree.
use Rattle.std.specs.Prelude.{ℕ, ◌≡◌, ◌≤◌, ◌+◌, List, [], ◌∷◌, Some, None, length, slice_get}
use Rattle.psg_grammar.specs.declared.types.Kind.{Kind}
use Rattle.psg_grammar.specs.declared.types.Kind.TheVariants as kinds
use Rattle.psg_grammar.specs.declared.types.ListKind.{ListKind}
use Rattle.psg_grammar.specs.declared.types.Definition.{Definition}
use Rattle.psg_grammar.specs.Fragments.{Fragment, children_of}
use Rattle.psg_grammar.specs.Kinds.{IsOfKind}
use Rattle.psg_grammar.specs.Paths.{Path, node_at, IsList}
use Rattle.psg_grammar.specs.Work.{climb_of, leaving}
use Rattle.psg_eval.specs.declared.frame.Frame.{Frame}
use Rattle.psg_eval.specs.declared.summary.SummaryParts.{SummaryParts}
use Rattle.psg_eval.specs.Frames.{CanClimb, IsFrame, StandAt, StandFor, TakesInFrame, rungs, rungs_in}
use Rattle.psg_eval.specs.Summaries.{IsSummary}
use Rattle.psg_cache.specs.Annotated.{Annotated, tree_in, below_in}
use Rattle.psg_cache.specs.Noted.{IsNoted}
use Rattle.psg_cache.specs.Notes.{IsFormed, IsNoteOf}

module _ (def : Definition) where
  -- The frames are those of the nodes above the node at the path, any summary of its kind can climb them, and they take
  -- the evaluations of a climb to the path.
  pub record AreFramesOf (f : Fragment) (path : Path) (around : List Frame) : Type 0 where
    pub node : Fragment
    pub there : node_at f path ≡ Some node
    pub kind : Kind
    pub of_kind : IsOfKind def node kind
    pub stand : StandFor def around path f node
    pub climb : CanClimb def around kind
    pub cost : rungs around ≡ climb_of f path

  -- The same for a new element before the element k of the list at the path.
  pub record AreFramesBefore (f : Fragment) (path : Path) (k : ℕ) (around : List Frame) : Type 0 where
    pub node : Fragment
    pub there : node_at f path ≡ Some node
    pub number : ℕ
    pub of_kind : IsOfKind def node (kinds.List number)
    pub list : ListKind
    pub found : slice_get def.lists number ≡ Some list
    pub stand : StandAt def around path (Some k) f
    pub climb : CanClimb def around (kinds.Phylum list.element)
    pub cost : rungs around ≡ (k + 1) + climb_of f path

  -- any summary of the kind is taken at the place of the frame of a node of the other kind
  abbrev pub TakesAny : Frame → Kind → Kind → Type 0
  TakesAny frame kind above = (s : SummaryParts) → IsSummary def s → s.kind ≡ kind → TakesInFrame def frame s above

  -- the node's frame around its child
  pub record IsFrameAround (n child : Annotated) (k : ℕ) (frame : Frame) : Type 0 where
    pub is : IsFrame def frame k (tree_in n) (tree_in child)
    pub takes : (kind above : Kind) → IsOfKind def (tree_in child) kind → IsOfKind def (tree_in n) above
        → TakesAny frame kind above
    pub cost : rungs_in frame ≡ leaving (tree_in n) k

  -- the frame is the node's around a new element before the element k of its list, and takes any summary of an element
  pub record IsElementFrame (n : Annotated) (k : ℕ) (frame : Frame) : Type 0 where
    pub number : ℕ
    pub of_kind : IsOfKind def (tree_in n) (kinds.List number)
    pub list : ListKind
    pub found : slice_get def.lists number ≡ Some list
    pub stand : StandAt def (frame ∷ []) [] (Some k) (tree_in n)
    pub takes : TakesAny frame (kinds.Phylum list.element) (kinds.List number)
    pub cost : rungs_in frame ≡ k + 1

-- for each definition by which the note is one: the frame is that of its node around its child of the number
abbrev pub IsFrameAt : Annotated → ℕ → Frame → Type 0
IsFrameAt n k frame = (def : Definition) (child : Annotated) → IsNoted def n → IsFormed def (tree_in n)
    → slice_get (below_in n) k ≡ Some child
    → IsFrameAround def n child k frame

-- for each such definition there is no such child
abbrev pub IsNoFrameAt : Annotated → ℕ → Type 0
IsNoFrameAt n k = (def : Definition) → IsNoted def n → IsFormed def (tree_in n) → slice_get (below_in n) k ≡ None

-- for each such definition the frame is that of its node around a new element before the element k
abbrev pub IsFrameBefore : Annotated → ℕ → Frame → Type 0
IsFrameBefore n k frame = (def : Definition) → IsNoted def n → IsFormed def (tree_in n) → IsElementFrame def n k frame

-- for each such definition its node is no list, or one with fewer than k elements
abbrev pub IsNoPlaceIn : Annotated → ℕ → Type 0
IsNoPlaceIn n k = (def : Definition) → IsNoted def n → IsFormed def (tree_in n)
    → IsList (tree_in n) → k ≤ length (children_of (tree_in n)) → ⊥

-- for each tree of which this is the note
abbrev pub AreFramesAt : Annotated → Path → List Frame → Type 0
AreFramesAt n path around = (def : Definition) (f : Fragment) → IsNoteOf def f n → AreFramesOf def f path around

-- for each tree of which this is the note, before the element k of the list at the path
abbrev pub AreElementFramesAt : Annotated → Path → ℕ → List Frame → Type 0
AreElementFramesAt n path k around =
    (def : Definition) (f : Fragment) → IsNoteOf def f n → AreFramesBefore def f path k around

-- for each such tree there is no list at the path, or one with fewer than k elements
abbrev pub IsNoElementAt : Annotated → Path → ℕ → Type 0
IsNoElementAt n path k = (def : Definition) (f : Fragment) → IsNoteOf def f n
    → (node : Fragment) → node_at f path ≡ Some node → IsList node → k ≤ length (children_of node) → ⊥
