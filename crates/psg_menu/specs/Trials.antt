-- What is known of an operator that is put to a place: its blanks, its own summary, and what that makes of the
-- fragment.
use Rattle.std.specs.Prelude.{ℕ, zero, suc, ◌≡◌, ◌↔◌, Bool, false, List, [], ◌∷◌, Option, Result, Ok, Err, Vec, IsTrue}
use Rattle.std.specs.List.{AllByRecursion}
use Rattle.std.specs.declared.alloc.Global.{Global}
use Rattle.psg_terms.specs.Names.{Name, is_among, has_twice}
use Rattle.psg_terms.specs.Relations.{IsIn}
use Rattle.psg_grammar.specs.declared.types.Kind.{Kind}
use Rattle.psg_grammar.specs.declared.types.Definition.{Definition}
use Rattle.psg_grammar.specs.Fragments.{Fragment}
use Rattle.psg_grammar.specs.Insertion.{Leaf, AreLeaves, blank, with_operator}
use Rattle.psg_grammar.specs.Lookups.{operator_at, items_of}
use Rattle.psg_grammar.specs.Open.{IsOpen}
use Rattle.psg_grammar.specs.Paths.{Path}
use Rattle.psg_grammar.specs.Steps.{IsWide, PassesAt, Place, steps_above, AreWithin}
use Rattle.psg_grammar.specs.WellFormed.{IsName}
use Rattle.psg_eval.specs.declared.frame.Frame.{Frame}
use Rattle.psg_eval.specs.declared.question.FocusFault.{FocusFault}
use Rattle.psg_eval.specs.declared.question.FocusFault.TheVariants as questions
use Rattle.psg_eval.specs.declared.summary.SummaryParts.{SummaryParts}
use Rattle.psg_eval.specs.Frames.{StandAt, StandFor}
use Rattle.psg_eval.specs.Summaries.{IsFirstPassing, IsSummary, IsSummaryOf, StaysWithin}
use Rattle.psg_renaming.specs.Occurring.{leaf_names}
use Rattle.psg_menu.specs.declared.judging.Class.{Class}
use Rattle.psg_menu.specs.Menus.{AreUsed, IsChoosable, IsFreshTrial}

-- a name of that many letters a
abbrev pub run : ℕ → Name
run zero = []
run (suc n) = 97 ∷ run n

module _ (def : Definition) where
  -- the summary of a new tree of the kind, no step of which passes the limit
  pub record IsBlank (kind : Kind) (s : SummaryParts) : Type 0 where
    pub of : IsSummaryOf def (blank def kind) s
    pub within : StaysWithin def (blank def kind)
    pub usual : IsSummary def s

  abbrev pub AreBlanks : List Kind → List SummaryParts → Type 0
  AreBlanks [] [] = Unit {0}
  AreBlanks (kind ∷ kinds) (s ∷ rest) = IsBlank kind s × AreBlanks kinds rest
  AreBlanks [] (s ∷ rest) = ⊥
  AreBlanks (kind ∷ kinds) [] = ⊥

  -- the summaries of new trees of the kinds, or a step of one of these trees passes the limit
  abbrev pub IsBlanksAnswer : List Kind → Result (Vec SummaryParts Global) FocusFault → Type 0
  IsBlanksAnswer kinds (Ok made) = AreBlanks kinds made.items
  IsBlanksAnswer kinds (Err questions.Wide) =
      (kind : Kind) × IsIn kind kinds × (step : ℕ) × IsFirstPassing def (blank def kind) step
  IsBlanksAnswer kinds (Err questions.Memory) = Unit {0}

  -- the words are names, all different, and none of those that are used
  pub record AreNewWords (used names : List Name) : Type 0 where
    pub once : has_twice names ≡ false
    pub each : AllByRecursion (λ n. IsName def n × (is_among used n ≡ false)) names

  -- whether every whole tree is open in which a tree with the summary is at the place of the frames; or a step of a
  -- climb passes the limit
  abbrev pub IsJudged : List Frame → SummaryParts → Result Bool FocusFault → Type 0
  IsJudged around own (Ok good) = (f t : Fragment) (path : Path) → StandFor def around path f t → IsSummaryOf def t own
      → (IsTrue good ↔ IsOpen def f) × AreWithin def (steps_above def [] path f)
  IsJudged around own (Err questions.Wide) =
      (f t : Fragment) (path : Path) → StandFor def around path f t → IsSummaryOf def t own
      → (place : Place) × IsIn place (steps_above def [] path f) × PassesAt def place.part place.step
  IsJudged around own (Err questions.Memory) = Unit {0}

  -- a summary with what is known of it at the place
  abbrev pub IsClass : List Frame → Class → Type 0
  IsClass around c = IsJudged around c.own (Ok c.good)

  -- the leaves are those of the operator, and have these names
  pub record AreNamedLeaves (o : ℕ) (names : List Name) (leaves : List Leaf) : Type 0 where
    pub are_leaves : AreLeaves def (items_of (operator_at def o)) leaves
    pub named : leaf_names leaves ≡ names

  -- whether the fragment with the operator at the place is open, under these names and any literals; or it is too wide
  abbrev pub IsTried : List Frame → ℕ → List Name → Result Bool FocusFault → Type 0
  IsTried around o names (Ok good) = (f : Fragment) (path : Path) (k : Option ℕ) → StandAt def around path k f
      → (leaves : List Leaf) → AreNamedLeaves o names leaves
      → (IsTrue good ↔ IsOpen def (with_operator def f path k o leaves))
      × ((IsWide def f → ⊥) → IsWide def (with_operator def f path k o leaves) → ⊥)
  IsTried around o names (Err questions.Wide) =
      (f : Fragment) (path : Path) (k : Option ℕ) → StandAt def around path k f
      → (leaves : List Leaf) → AreNamedLeaves o names leaves → IsWide def (with_operator def f path k o leaves)
  IsTried around o names (Err questions.Memory) = Unit {0}

  -- whether the operator may be chosen at the place; or a trial of it is too wide
  abbrev pub IsOffered : List Frame → List Name → ℕ → Result Bool FocusFault → Type 0
  IsOffered around used o (Ok good) =
      (f : Fragment) (path : Path) (k : Option ℕ) → StandAt def around path k f → AreUsed used f
      → (IsTrue good ↔ IsChoosable def f path k (IsOpen def) o)
      × ((IsWide def f → ⊥) → (leaves : List Leaf) → IsFreshTrial def f path k o leaves
      → IsWide def (with_operator def f path k o leaves) → ⊥)
  IsOffered around used o (Err questions.Wide) =
      (f : Fragment) (path : Path) (k : Option ℕ) → StandAt def around path k f → AreUsed used f
      → (leaves : List Leaf) × IsFreshTrial def f path k o leaves × IsWide def (with_operator def f path k o leaves)
  IsOffered around used o (Err questions.Memory) = Unit {0}
