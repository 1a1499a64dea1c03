-- The steps of a node one by one, up to the first without rows.
use Rattle.std.specs.Prelude.{ℕ, ◌≡◌, ◌≤◌, ◌+◌, ◌⊎◌, true, List, [], ◌∷◌, drop, length, Some, slice_get}
use Rattle.std.specs.Prelude.{Result, Ok, Err, Vec}
use Rattle.std.specs.Global.{Global}
use Rattle.psg_terms.specs.Terms.{Term}
use Rattle.psg_terms.specs.Weight.{PassesLimit}
use Rattle.psg_grammar.specs.declared.types.Definition.{Definition}
use Rattle.psg_grammar.specs.declared.types.Kind.{Kind}
use Rattle.psg_grammar.specs.Fragments.{Fragment}
use Rattle.psg_grammar.specs.Lookups.{is_scope}
use Rattle.psg_grammar.specs.Relations.{IsRelationOf}
use Rattle.psg_grammar.specs.Steps.{children_count, last_step}
use Rattle.psg_scope.specs.declared.header.Header.{Header}
use Rattle.psg_eval.specs.declared.partial.Partial.{Partial}
use Rattle.psg_eval.specs.declared.steps.Grown.{Grown}
use Rattle.psg_eval.specs.declared.steps.StepRows.{StepRows}
use Rattle.psg_eval.specs.declared.summary.EvalFault.{EvalFault}
use Rattle.psg_eval.specs.declared.summary.EvalFault.TheVariants as faults
use Rattle.psg_eval.specs.declared.summary.SummaryParts.{SummaryParts}
use Rattle.psg_eval.specs.Partials.{IsAdded, IsPartial}
use Rattle.psg_eval.specs.Stages.{kinds_of, IsMade, IsStep}
use Rattle.psg_eval.specs.Summaries.{IsFirstPassing, IsHeaderOf}

module _ (def : Definition) (f : Fragment) where
  -- the step of this number: up to the last child, or after the keys that end there are dropped
  pub data IsStepOf (n : ℕ) (s : StepRows) : Type 0 where
    adding : n ≤ children_count f → IsStep def f n s.header s.rel → IsStepOf n s
    closing : n ≡ children_count f + 1 → is_scope def f ≡ true → IsHeaderOf def f s.header → IsRelationOf def f s.rel
        → IsStepOf n s

  -- The steps from the first on; none passes the limit. One without rows is the last; where there is none they are all.
  pub record AreSteps (steps : List StepRows) : Type 0 where
    pub each : (n : ℕ) (s : StepRows) → slice_get steps n ≡ Some s → IsStepOf n s
    pub within : (n : ℕ) (s : StepRows) → slice_get steps n ≡ Some s → PassesLimit s.rel → ⊥
    pub ended : (n : ℕ) (s : StepRows) → slice_get steps n ≡ Some s → s.rel ≡ [] → length steps ≡ n + 1
    pub all : (length steps ≡ last_step def f + 1)
        ⊎ ((n : ℕ) × (s : StepRows) × (slice_get steps n ≡ Some s) × (s.rel ≡ []))

  -- the steps; or the first that passes the limit; or that memory ran out
  abbrev pub MatchSteps : Result (Vec StepRows Global) EvalFault → Type 0
  MatchSteps (Ok v) = AreSteps v.items
  MatchSteps (Err (faults.Wide step)) = IsFirstPassing def f step
  MatchSteps (Err faults.Memory) = Unit {0}

  -- ---- while they are made

  -- the tree's children are as many as these, and one of them more makes its next step
  pub record Grows (children : List SummaryParts) : Type 0 where
    pub count : length children ≡ children_count f
    pub next : (n : ℕ) (s : SummaryParts) → slice_get children n ≡ Some s → (kind : Kind) (p : Partial)
        → IsPartial def kind (s.kind ∷ kinds_of (drop (n + 1) children)) p → IsMade def f n p
        → (h : Header) (rows : List (List Term)) → IsAdded def p s h rows → IsStep def f (n + 1) h rows

  -- the steps before the last, each with rows, and the last
  pub record IsGrown (before : List StepRows) (last : Partial) : Type 0 where
    pub there : length before ≤ children_count f
    pub each : (n : ℕ) (s : StepRows) → slice_get before n ≡ Some s → IsStep def f n s.header s.rel
    pub some : (n : ℕ) (s : StepRows) → slice_get before n ≡ Some s → s.rel ≡ [] → ⊥
    pub made : IsMade def f (length before) last

  abbrev pub MatchGrown : Result Grown EvalFault → Type 0
  MatchGrown (Ok g) = IsGrown g.before.items g.last
  MatchGrown (Err (faults.Wide step)) = IsFirstPassing def f step
  MatchGrown (Err faults.Memory) = Unit {0}
