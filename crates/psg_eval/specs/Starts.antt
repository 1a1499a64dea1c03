-- What evaluations begin with, and what is looked up of a definition.
use Rattle.std.specs.Prelude.{ℕ, ◌≡◌, true, false, List, [], ◌∷◌, length, Option, Some, slice_get}
use Rattle.std.specs.Prelude.{Ok, IfSome}
use Rattle.psg_terms.specs.Names.{Name}
use Rattle.psg_grammar.specs.declared.types.Kind.TheVariants as kinds
use Rattle.psg_grammar.specs.declared.types.ListKind.{ListKind}
use Rattle.psg_grammar.specs.declared.types.Operator.{Operator}
use Rattle.psg_grammar.specs.declared.types.Definition.{Definition}
use Rattle.psg_grammar.specs.Fragments.{Fragment, ending, hole}
use Rattle.psg_eval.specs.OwnRows.{positions}
use Rattle.psg_eval.specs.Own.{IsOwnStep}
use Rattle.psg_eval.specs.Partials.{IsPartial, MatchStep}
use Rattle.psg_eval.specs.SpaceTables.{AreDeclaringSpaces}
use Rattle.psg_eval.specs.Stages.{IsCellStart}
use Rattle.psg_eval.specs.Summaries.{Answers, AreSummariesOf, IsSummary, are_names, slot_kinds}
use Rattle.psg_eval.specs.Trees.{IsNode}
use Rattle.psg_eval.specs.declared.partial.Partial.{Partial}
use Rattle.psg_eval.specs.declared.starts.ListStart.{ListStart}
use Rattle.psg_eval.specs.declared.starts.NamedStart.{NamedStart}
use Rattle.psg_eval.specs.declared.starts.OperatorStart.{OperatorStart}
use Rattle.psg_eval.specs.declared.starts.OperatorStart.TheVariants as begins
use Rattle.psg_eval.specs.declared.starts.Starts.{Starts}
use Rattle.psg_eval.specs.declared.summary.SummaryParts.{SummaryParts}
use Rattle.psg_eval.specs.declared.tables.Tables.{Tables}

-- each holds of its place
abbrev pub AreAt : {X : Type 0} → (ℕ → X → Type 0) → List X → Type 0
AreAt {X} P xs = (i : ℕ) (x : X) → slice_get xs i ≡ Some x → P i x

module _ (def : Definition) where
  -- the summary of the tree, none of whose steps passes the limit
  pub record IsTreeStart (f : Fragment) (s : SummaryParts) : Type 0 where
    pub answer : Answers def f (Ok s)
    pub usual : IsSummary def s

  -- a cell of the list without its two children
  pub record IsCellBegun (l : ℕ) (p : Partial) : Type 0 where
    pub step : MatchStep (IsCellStart def l) (Ok p)
    pub partial : (kind : ListKind) → slice_get def.lists l ≡ Some kind
        → IsPartial def (kinds.List l) (kinds.Phylum kind.element ∷ kinds.List l ∷ []) p
    pub seen : p.seen ≡ 0

  -- the operator with these names and without children
  pub record IsOwnBegun (op : Operator) (names : List Name) (p : Partial) : Type 0 where
    pub fits : length (are_names def op.items) ≡ length names
    pub step : MatchStep (IsOwnStep def op names) (Ok p)
    pub partial : IsPartial def (kinds.Phylum op.phylum) (slot_kinds def op.items) p
    pub seen : p.seen ≡ 0

  -- an operator with one name position, of this space, and without children; its rows are those under any name
  pub record IsNamed (op : Operator) (n : NamedStart) : Type 0 where
    pub position : (name : Name)
        → positions op.items (name ∷ []) ≡ record { space = n.space; name = name; declared = n.declared } ∷ []
    pub some : Name
    pub begun : IsOwnBegun op (some ∷ []) n.bare

  -- the summary of the nodes of an operator without names and slots
  pub record IsWhole (op : Operator) (s : SummaryParts) : Type 0 where
    pub nameless : length (are_names def op.items) ≡ 0
    pub slotless : slot_kinds def op.items ≡ []
    pub answer : (o : ℕ) (f : Fragment) → slice_get def.operators o ≡ Some op → IsNode def o [] f
        → AreSummariesOf def f [] → Answers def f (Ok s)
    pub usual : IsSummary def s
    pub kind : s.kind ≡ kinds.Phylum op.phylum
    pub seen : s.seen ≡ 0

  abbrev pub IsOperatorStart : Operator → OperatorStart → Type 0
  IsOperatorStart op begins.Unknown = Unit {0}
  IsOperatorStart op (begins.Whole s) = IsWhole op s
  IsOperatorStart op (begins.Bare p) = IsOwnBegun op [] p
  IsOperatorStart op (begins.Named n) = IsNamed op n

  pub record IsListStart (l : ℕ) (s : ListStart) : Type 0 where
    pub unfinished : IfSome s.unfinished (IsTreeStart (ending l true))
    pub finished : IfSome s.finished (IsTreeStart (ending l false))
    pub cell : IfSome s.cell (IsCellBegun l)

  -- of each kind of node what is there
  abbrev pub AreHoleStarts : List (Option SummaryParts) → Type 0
  AreHoleStarts made = AreAt (λ p o. IfSome o (IsTreeStart (hole p))) made

  abbrev pub AreListStarts : List ListStart → Type 0
  AreListStarts made = AreAt IsListStart made

  abbrev pub IsStartAt : ℕ → OperatorStart → Type 0
  IsStartAt o s = (op : Operator) → slice_get def.operators o ≡ Some op → IsOperatorStart op s

  abbrev pub AreOperatorStarts : List OperatorStart → Type 0
  AreOperatorStarts made = AreAt IsStartAt made

  pub record AreStarts (s : Starts) : Type 0 where
    pub holes : AreHoleStarts s.holes.items
    pub lists : AreListStarts s.lists.items
    pub operators : AreOperatorStarts s.operators.items
    pub unknown : s.unknown ≡ begins.Unknown

  -- the tables of the definition
  pub record AreTables (t : Tables) : Type 0 where
    pub spaces : AreDeclaringSpaces def t.spaces.items
    pub starts : AreStarts t.starts
