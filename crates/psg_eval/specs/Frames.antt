-- What frames represent: the nodes above a place of a tree, with a summary of each subtree beside the way to it.
use Rattle.std.specs.Prelude.{ℕ, zero, suc, ◌≡◌, ◌+◌, ◌<◌, List, [], ◌∷◌, ◌++◌, length, Option, Some, None, slice_get}
use Rattle.std.specs.List.{AllByRecursion}
use Rattle.psg_grammar.specs.declared.types.Kind.{Kind}
use Rattle.psg_grammar.specs.declared.types.Kind.TheVariants as kinds
use Rattle.psg_grammar.specs.declared.types.Operator.{Operator}
use Rattle.psg_grammar.specs.declared.types.Definition.{Definition}
use Rattle.psg_grammar.specs.Fragments.{Fragment, hole, ending, cell, operator, with_child, with_name}
use Rattle.psg_grammar.specs.Fragments.{with_number, with_text, anything, observed, children_of}
use Rattle.psg_grammar.specs.Paths.{Path, IsList}
use Rattle.psg_eval.specs.declared.summary.SummaryParts.{SummaryParts}
use Rattle.psg_eval.specs.declared.frame.Frame.{Frame}
use Rattle.psg_eval.specs.declared.frame.Frame.TheVariants as frames
use Rattle.psg_eval.specs.Summaries.{AllSummaries, IsSummary, IsSummaryOf, TakesAt, TakesCell}
use Rattle.psg_eval.specs.Trees.{IsNode}

-- no value in the tree is observed
abbrev pub IsSilent : SummaryParts → Type 0
IsSilent s = s.seen ≡ 0

-- all summaries except that of the number are silent
abbrev pub AreSilentBut : ℕ → List SummaryParts → Type 0
AreSilentBut k [] = Unit {0}
AreSilentBut zero (s ∷ rest) = AllByRecursion IsSilent rest
AreSilentBut (suc k) (s ∷ rest) = IsSilent s × AreSilentBut k rest

-- another summary at the place of the number
abbrev pub put_at : ℕ → SummaryParts → List SummaryParts → List SummaryParts
put_at k s [] = []
put_at zero s (old ∷ rest) = s ∷ rest
put_at (suc k) s (old ∷ rest) = old ∷ put_at k s rest

-- how many evaluations the frame takes: one of an operator, and of a list one of the element's cell and of each cell
-- before it
abbrev pub rungs_in : Frame → ℕ
rungs_in (frames.Op op names children hot) = 1
rungs_in (frames.Elem list before rest) = length before + 1

-- how many evaluations the frames take together
abbrev pub rungs : List Frame → ℕ
rungs [] = 0
rungs (frame ∷ more) = rungs_in frame + rungs more

module _ (def : Definition) where
  -- the summaries of the trees in order, except that of the number: there any summary may be
  abbrev pub AllSummariesBut : ℕ → List Fragment → List SummaryParts → Type 0
  AllSummariesBut zero (f ∷ fs) (s ∷ rest) = AllSummaries def fs rest
  AllSummariesBut (suc k) (f ∷ fs) (s ∷ rest) = IsSummaryOf def f s × AllSummariesBut k fs rest
  AllSummariesBut k [] summaries = ⊥
  AllSummariesBut k (f ∷ fs) [] = ⊥

  -- t is an element of the list u, after elements with these summaries and before a list with the other one
  abbrev pub IsElement : ℕ → List SummaryParts → SummaryParts → Fragment → Fragment → Type 0
  IsElement l [] rest (cell m e r) t = (m ≡ l) × (e ≡ t) × IsSummaryOf def r rest
  IsElement l (s ∷ before) rest (cell m e r) t = (m ≡ l) × IsSummaryOf def e s × IsElement l before rest r t
  IsElement l before rest u t = ⊥

  -- The frame is that of the node u around its child t of the number. It does not depend on what t is.
  abbrev pub IsFrame : Frame → ℕ → Fragment → Fragment → Type 0
  IsFrame (frames.Op op names children hot) k u t =
      IsNode def op names u × (k ≡ hot) × (slice_get (children_of u) k ≡ Some t)
      × AllSummariesBut k (children_of u) children
  IsFrame (frames.Elem list before rest) k u t = (k ≡ length before) × IsElement list before rest u t

  -- The frames are those of the nodes above the node t at the path of the tree f, the innermost first.
  abbrev pub StandFor : List Frame → Path → Fragment → Fragment → Type 0
  StandFor [] path f t = (path ≡ []) × (f ≡ t)
  StandFor (frame ∷ more) path f t =
      (above : Path) × (k : ℕ) × (u : Fragment) × (path ≡ above ++ k ∷ []) × IsFrame frame k u t
      × StandFor more above f u

  -- a list whose first elements have these summaries, and the list after them the other one
  abbrev pub IsGap : ℕ → List SummaryParts → SummaryParts → Fragment → Type 0
  IsGap l [] rest u = IsList u × (rest.kind ≡ kinds.List l) × IsSummaryOf def u rest
  IsGap l (s ∷ before) rest (cell m e r) = (m ≡ l) × IsSummaryOf def e s × IsGap l before rest r
  IsGap l (s ∷ before) rest u = ⊥

  -- The frames surround a place of the tree: that of the node at the path, or, where k is given, that of a new element
  -- before the element k of the list there, which the innermost frame is.
  abbrev pub StandAt : List Frame → Path → Option ℕ → Fragment → Type 0
  StandAt around path None f = (t : Fragment) × StandFor around path f t
  StandAt [] path (Some k) f = ⊥
  StandAt (frames.Op op names children hot ∷ more) path (Some k) f = ⊥
  StandAt (frames.Elem list before rest ∷ more) path (Some k) f =
      (u : Fragment) × StandFor more path f u × (k ≡ length before) × IsGap list before rest u

  -- an element of the list before, which is silent
  pub record TakesBefore (kind : Kind) (b : SummaryParts) : Type 0 where
    pub same : b.kind ≡ kind
    pub silent : IsSilent b
    pub usual : IsSummary def b

  -- with this summary at its place the frame is that of a node of the kind, and all others are silent
  abbrev pub TakesInFrame : Frame → SummaryParts → Kind → Type 0
  TakesInFrame (frames.Op op names children hot) s above =
      (hot < length children) × AreSilentBut hot children × TakesAt def op names (put_at hot s children)
      × (o : Operator) × (slice_get def.operators op ≡ Some o) × (above ≡ kinds.Phylum o.phylum)
  TakesInFrame (frames.Elem list before rest) s above =
      TakesCell def list s rest × IsSilent rest × (above ≡ kinds.List list) × AllByRecursion (TakesBefore s.kind) before

  -- Any summary of the kind can climb the frames: each leads to a node of the kind that the next one takes.
  abbrev pub CanClimb : List Frame → Kind → Type 0
  CanClimb [] kind = Unit {0}
  CanClimb (frame ∷ more) kind =
      (above : Kind) × ((s : SummaryParts) → IsSummary def s → s.kind ≡ kind → TakesInFrame frame s above)
      × CanClimb more above
