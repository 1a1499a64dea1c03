-- The result of the search for the reasons of cases.
use Rattle.std.specs.Prelude.{ℕ, ◌≡◌, ◌+◌, ◌<◌, ◌≤◌, length, map, take, slice_get, Some, None, List}
use Rattle.std.specs.List.{AllByRecursion}
use Rattle.psg_grammar.specs.declared.types.Definition.{Definition}
use Rattle.psg_explain.specs.declared.given.Case.{Case}
use Rattle.psg_explain.specs.declared.last.First.{First}
use Rattle.psg_explain.specs.declared.last.Span.{Span}
use Rattle.psg_explain.specs.declared.refutation.Claim.{Claim}
use Rattle.psg_explain.specs.declared.stages.Stage.{Stage}
use Rattle.psg_explain.specs.Equations.{Equation}
use Rattle.psg_explain.specs.Plans.{AreCanonical, Step, cases_at, rows_claimed}
use Rattle.psg_explain.specs.Reasons.{IsReason}
use Rattle.psg_explain.specs.Sources.{IsStage}
use Rattle.psg_explain.specs.Walks.{At}

-- the given equations before that of the number have a common solution, and with it they have none
pub record IsFirst (given : List Equation) (f : First) : Type 0 where
  pub within : f.number < length given
  pub before : IsReason (take f.number given) None
  pub first : IsReason (take (f.number + 1) given) (Some f.reason)
  pub whole : IsReason given (Some f.reason)

-- that many of the given equations have a common solution, and that many have none
pub record IsSpan (given : List Equation) (s : Span) : Type 0 where
  pub apart : s.low < s.high
  pub within : s.high ≤ length given
  pub solved : IsReason (take s.low given) None
  pub failing : IsReason (take s.high given) (Some s.reason)

-- the given equations have no common solution, and each has a subject
pub record IsUnsolved (c : Case) : Type 0 where
  pub unsolved : IsReason c.given None → ⊥
  pub told : length c.subjects ≡ length c.given

-- The last claim is of this step, and none of the step's cases has a solution.
pub record IsReady (def : Definition) (claims : List Claim) (stages : List Stage) (last : At) : Type 0 where
  pub place : ℕ
  pub count : length claims ≡ place + 1
  pub within : place < length stages
  pub canonical : AllByRecursion AreCanonical (map rows_claimed (take place claims))
  pub cases : (stage : Stage) → slice_get stages place ≡ Some stage
      → (s : Step) × IsStage def stage s × (last.cases ≡ cases_at def (map rows_claimed (take place claims)) s)
  pub unsolved : AllByRecursion IsUnsolved last.cases
