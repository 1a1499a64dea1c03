-- What the steps of a change of a note answer.
use Rattle.std.specs.Prelude.{ℕ, ◌≡◌, Bool, true, false, List, [], ◌∷◌, slice_get, Option, Some, None}
use Rattle.std.specs.List.{AllByRecursion}
use Rattle.psg_grammar.specs.declared.types.Kind.TheVariants as kinds
use Rattle.psg_grammar.specs.declared.types.ListKind.{ListKind}
use Rattle.psg_grammar.specs.declared.types.Definition.{Definition}
use Rattle.psg_grammar.specs.Fragments.{Fragment, cell}
use Rattle.psg_grammar.specs.Paths.{Path}
use Rattle.psg_grammar.specs.Steps.{AreWithin, list_steps}
use Rattle.psg_eval.specs.declared.summary.SummaryParts.{SummaryParts}
use Rattle.psg_eval.specs.Summaries.{AllSummaries, IsSummary, IsSummaryOf}
use Rattle.psg_cache.specs.Walks.{IsStepFault}
use Rattle.psg_cache.specs.declared.note.NoteFault.{NoteFault}
use Rattle.psg_cache.specs.Annotated.{Annotated}
use Rattle.psg_cache.specs.Noted.{IsNotedAs, IsOfCells}

-- the first of the summaries, or the other one where there is none
abbrev pub first_or : SummaryParts → List SummaryParts → SummaryParts
first_or behind [] = behind
first_or behind (s ∷ ss) = s

-- the new note, or the old one where there is none
abbrev pub IsKeptOr : Annotated → Option Annotated → Annotated → Bool → Type 0
IsKeptOr old None note equal = (note ≡ old) × (equal ≡ true)
IsKeptOr old (Some n) note equal = (note ≡ n) × (equal ≡ false)

-- elements in front of a list
abbrev pub cells_of : ℕ → List Fragment → Fragment → Fragment
cells_of l [] r = r
cells_of l (e ∷ es) r = cell l e (cells_of l es r)

module _ (def : Definition) where
  -- Nothing where the trees are equal, else the note of the new one. So the trees are never compared a second time.
  abbrev pub IsRenoted : Fragment → Fragment → Option Annotated → Type 0
  IsRenoted old new None = old ≡ new
  IsRenoted old new (Some n) = (old ≡ new → ⊥) × IsNotedAs def new n

  -- the summaries of the suffixes that begin with these elements, before the suffix after them
  abbrev pub AreOfCells : ℕ → List SummaryParts → SummaryParts → List SummaryParts → Type 0
  AreOfCells l [] behind [] = Unit {0}
  AreOfCells l (b ∷ bs) behind (s ∷ ss) = IsOfCells def l b (first_or behind ss) s × AreOfCells l bs behind ss
  AreOfCells _ _ _ _ = ⊥

  -- what was kept of the same places, for the elements whose summaries did not change
  abbrev pub AreOldCells : ℕ → List Bool → List SummaryParts → SummaryParts → List SummaryParts → Type 0
  AreOldCells l [] [] was [] = Unit {0}
  AreOldCells l (c ∷ cs) (b ∷ bs) was (s ∷ ss) =
      (c ≡ false → IsOfCells def l b (first_or was ss) s) × AreOldCells l cs bs was ss
  AreOldCells _ _ _ _ _ = ⊥

  -- elements of the list, and a suffix of it
  pub record TakesCells (l : ℕ) (elements : List SummaryParts) (behind : SummaryParts) : Type 0 where
    pub list : ListKind
    pub found : slice_get def.lists l ≡ Some list
    pub element_kinds : AllByRecursion (λ (s : SummaryParts). s.kind ≡ kinds.Phylum list.element) elements
    pub rest_kind : behind.kind ≡ kinds.List l
    pub usual : AllByRecursion (IsSummary def) (behind ∷ elements)

  -- one of the cells' steps is the first that passes the limit, whatever the elements and the suffix are, where none of
  -- its own does
  abbrev pub IsCellsFault : Path → ℕ → List SummaryParts → SummaryParts → NoteFault → Type 0
  IsCellsFault path l elements behind fault =
      (es : List Fragment) (r : Fragment) → AllSummaries def es elements → IsSummaryOf def r behind
      → AreWithin def (list_steps def path r)
      → IsStepFault def (list_steps def path (cells_of l es r)) fault
