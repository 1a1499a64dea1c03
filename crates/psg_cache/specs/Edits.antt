-- When a note may be changed at a path.
use Rattle.std.specs.Prelude.{ℕ, List, ◌≡◌, ◌<◌, ◌≤◌, length, slice_get, Some, None}
use Rattle.psg_grammar.specs.declared.types.Kind.{Kind}
use Rattle.psg_grammar.specs.declared.types.Kind.TheVariants as kinds
use Rattle.psg_grammar.specs.declared.types.ListKind.{ListKind}
use Rattle.psg_grammar.specs.declared.types.Definition.{Definition}
use Rattle.psg_grammar.specs.Fragments.{Fragment, children_of}
use Rattle.psg_grammar.specs.Paths.{Path, node_at, IsList}
use Rattle.psg_grammar.specs.Kinds.{IsOfKind}
use Rattle.psg_eval.specs.declared.summary.SummaryParts.{SummaryParts}
use Rattle.psg_eval.specs.Summaries.{IsSummary, IsSummaryOf}
use Rattle.psg_grammar.specs.Marks.{IsMark}
use Rattle.psg_grammar.specs.WellFormed.{WellFormed}
use Rattle.psg_cache.specs.Notes.{IsNoteOf, mark_by}
use Rattle.psg_cache.specs.Annotated.{Annotated}

module _ (def : Definition) (f : Fragment) (path : Path) where
  -- the path leads to a node of the new tree's kind
  pub record MayReplace (new : Fragment) : Type 0 where
    pub node : Fragment
    pub there : node_at f path ≡ Some node
    pub kind : Kind
    pub of_kind : IsOfKind def node kind
    pub formed : WellFormed def new kind

  -- the path leads to a list that takes the new tree before the place
  pub record MayInsert (place : ℕ) (new : Fragment) : Type 0 where
    pub node : Fragment
    pub there : node_at f path ≡ Some node
    pub number : ℕ
    pub of_kind : IsOfKind def node (kinds.List number)
    pub list : ListKind
    pub found : slice_get def.lists number ≡ Some list
    pub formed : WellFormed def new (kinds.Phylum list.element)
    pub within : place ≤ length (children_of node)

  -- the path leads to a list with an element at the place
  pub record MayRemove (place : ℕ) : Type 0 where
    pub node : Fragment
    pub there : node_at f path ≡ Some node
    pub list : IsList node
    pub within : place < length (children_of node)

-- for each tree of which this is the note: the summary is that of the node at the path
abbrev pub IsSummaryAt : Annotated → Path → SummaryParts → Type 0
IsSummaryAt n path s = (def : Definition) (f : Fragment) → IsNoteOf def f n
    → (node : Fragment) × (node_at f path ≡ Some node) × IsSummaryOf def node s × IsSummary def s

-- for each such tree the path leads to no node
abbrev pub IsNoSummaryAt : Annotated → Path → Type 0
IsNoSummaryAt n path = (def : Definition) (f : Fragment) → IsNoteOf def f n → node_at f path ≡ None

-- for each such tree these are its culprits, and there are none just where it is open
abbrev pub AreCulpritsIn : Annotated → List Path → Type 0
AreCulpritsIn n paths = (def : Definition) (f : Fragment) → IsNoteOf def f n → IsMark def f (mark_by paths)
