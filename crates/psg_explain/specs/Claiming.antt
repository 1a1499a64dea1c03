-- Rows that may be claimed of steps, and claims on them.
use Rattle.std.specs.Prelude.{List, [], ◌∷◌, ◌++◌}
use Rattle.std.specs.List.{AllByRecursion}
use Rattle.psg_terms.specs.Terms.{Term}
use Rattle.psg_grammar.specs.declared.types.Definition.{Definition}
use Rattle.psg_explain.specs.declared.given.Case.{Case}
use Rattle.psg_explain.specs.declared.refutation.Claim.{Claim}
use Rattle.psg_explain.specs.Fitted.{IsCoverable}
use Rattle.psg_explain.specs.Plans.{Step, at_of, cases_at}
use Rattle.psg_explain.specs.Refutations.{AreClaimed, IsClaim}

-- one of the rows covers each case whose equations have a solution
abbrev pub AreCoverable : List (List Term) → List Case → Type 0
AreCoverable rows cases = AllByRecursion (λ (c : Case). IsCoverable rows c.given c.columns) cases

module _ (def : Definition) where
  -- the rows may be claimed of the step, where the steps before it have those rows
  pub record MayClaim (before : List (List (List Term))) (s : Step) (rows : List (List Term)) : Type 0 where
    pub are : AreClaimed def s.part s.number rows
    pub covered : AreCoverable rows (cases_at def before s)

  -- these rows may be claimed of the first of the steps, one after the other
  abbrev pub MayClaimAll : List (List (List Term)) → List Step → List (List (List Term)) → Type 0
  MayClaimAll before steps [] = Unit {0}
  MayClaimAll before [] (r ∷ rows) = ⊥
  MayClaimAll before (s ∷ steps) (r ∷ rows) = MayClaim before s r × MayClaimAll (before ++ r ∷ []) steps rows

  -- claims on the first of the steps, one after the other
  abbrev pub AreClaims : List (List (List Term)) → List Step → List Claim → Type 0
  AreClaims before steps [] = Unit {0}
  AreClaims before [] (c ∷ claims) = ⊥
  AreClaims before (s ∷ steps) (c ∷ claims) = IsClaim def (at_of def before s) c
      × AreClaims (before ++ c.rows ∷ []) steps claims
