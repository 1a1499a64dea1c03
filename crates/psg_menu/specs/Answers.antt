-- What is answered to questions about a place, and how many evaluations an answer may take.
use Rattle.std.specs.Prelude.{ℕ, ◌≡◌, ◌+◌, ◌*◌, List, length, sum_by, Option}
use Rattle.std.specs.Prelude.{Some, None, Result, Ok, Err, slice_get, Vec}
use Rattle.std.specs.declared.alloc.Global.{Global}
use Rattle.psg_terms.specs.Names.{Name}
use Rattle.psg_terms.specs.Relations.{IsIn}
use Rattle.psg_grammar.specs.declared.types.Operator.{Operator}
use Rattle.psg_grammar.specs.declared.types.Definition.{Definition}
use Rattle.psg_grammar.specs.Fragments.{Fragment}
use Rattle.psg_grammar.specs.Insertion.{Leaf, with_operator}
use Rattle.psg_grammar.specs.Lookups.{operator_at}
use Rattle.psg_grammar.specs.Marks.{Chosen}
use Rattle.psg_grammar.specs.Paths.{Path}
use Rattle.psg_grammar.specs.Steps.{IsWide}
use Rattle.psg_eval.specs.declared.frame.Frame.{Frame}
use Rattle.psg_eval.specs.declared.question.FocusFault.{FocusFault}
use Rattle.psg_eval.specs.declared.question.FocusFault.TheVariants as questions
use Rattle.psg_eval.specs.Frames.{rungs}
use Rattle.psg_eval.specs.Summaries.{slot_kinds, are_names}
use Rattle.psg_menu.specs.Menus.{IsChoosable, IsFreshTrial, IsMenu, AreNameable, HasWideTrial, HasWideNaming}

module _ (def : Definition) where
  module _ (IsGood : Fragment → Type 0) (f : Fragment) (path : Path) (k : Option ℕ) where
    -- The operators that may be chosen; if the fragment itself is not too wide, no trial is. Or the answer says that a
    -- trial is too wide.
    abbrev pub IsMenuAnswer : ℕ → Result (Vec ℕ Global) FocusFault → Type 0
    IsMenuAnswer p (Ok ops) =
        IsMenu def f path k IsGood p ops.items × ((IsWide def f → ⊥) → HasWideTrial def f path k p → ⊥)
    IsMenuAnswer p (Err questions.Wide) = HasWideTrial def f path k p
    IsMenuAnswer p (Err questions.Memory) = Unit {0}

    -- The candidates that may be the name of the operator, which has one; if the fragment itself is not too wide, no
    -- trial is. Or the answer says that a trial is too wide.
    abbrev pub IsNamesAnswer : ℕ → List Name → Result (Vec Name Global) FocusFault → Type 0
    IsNamesAnswer o candidates (Ok names) =
        AreNameable def f path k IsGood o candidates names.items
        × ((IsWide def f → ⊥) → HasWideNaming def f path k o candidates → ⊥)
    IsNamesAnswer o candidates (Err questions.Wide) = HasWideNaming def f path k o candidates
    IsNamesAnswer o candidates (Err questions.Memory) = Unit {0}

  -- the same questions for a list of operators, of whatever phyla
  module _ (IsGood : Fragment → Type 0) (f : Fragment) (path : Path) (k : Option ℕ) where
    -- a trial of one of the operators is too wide
    abbrev pub HasWideTrialOf : List ℕ → Type 0
    HasWideTrialOf ops =
        (o : ℕ) × IsIn o ops × (leaves : List Leaf) × IsFreshTrial def f path k o leaves
        × IsWide def (with_operator def f path k o leaves)

    abbrev pub IsChosenAnswer : List ℕ → Result (Vec ℕ Global) FocusFault → Type 0
    IsChosenAnswer ops (Ok found) =
        Chosen (IsChoosable def f path k IsGood) ops found.items × ((IsWide def f → ⊥) → HasWideTrialOf ops → ⊥)
    IsChosenAnswer ops (Err questions.Wide) = HasWideTrialOf ops
    IsChosenAnswer ops (Err questions.Memory) = Unit {0}

  abbrev pub slots_of : Option Operator → ℕ
  slots_of None = 0
  slots_of (Some o) = length (slot_kinds def o.items)

  -- of an operator: one, its slots, and a climb
  abbrev pub op_ticks : List Frame → ℕ → ℕ
  op_ticks around o = 1 + slots_of (operator_at def o) + rungs around

  abbrev pub menu_ticks : List ℕ → List Frame → ℕ
  menu_ticks ops around = sum_by (op_ticks around) ops

  -- of each candidate as much as of an operator
  abbrev pub names_ticks : ℕ → List Name → List Frame → ℕ
  names_ticks o candidates around = length candidates * (1 + slots_of (operator_at def o) + rungs around)

  -- the operator is of the phylum and has one name
  pub record HasOneName (o p : ℕ) : Type 0 where
    pub op : Operator
    pub found : slice_get def.operators o ≡ Some op
    pub phylum : op.phylum ≡ p
    pub one : length (are_names def op.items) ≡ 1
