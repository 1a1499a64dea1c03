-- What is said of a tree with its value observed, and of the tree around a node.
use Rattle.std.specs.Prelude.{ℕ, ◌≡◌, List, []}
use Rattle.std.specs.Prelude.{Result, Ok, Err}
use Rattle.psg_terms.specs.Terms.{Term}
use Rattle.psg_terms.specs.Weight.{PassesLimit}
use Rattle.psg_grammar.specs.declared.types.Definition.{Definition}
use Rattle.psg_grammar.specs.Fragments.{Fragment, observed}
use Rattle.psg_grammar.specs.Paths.{Path}
use Rattle.psg_grammar.specs.Relations.{IsRelationOf}
use Rattle.psg_grammar.specs.Steps.{Place, steps_above, AreWithin, IsFirstOf}
use Rattle.psg_eval.specs.declared.summary.SummaryParts.{SummaryParts}
use Rattle.psg_eval.specs.declared.summary.EvalFault.{EvalFault}
use Rattle.psg_eval.specs.declared.summary.EvalFault.TheVariants as faults
use Rattle.psg_eval.specs.Summaries.{IsSummaryOf}

module _ (def : Definition) where
  -- the summary of the tree with its value observed, or its relation, the step 0, passes the limit
  abbrev pub IsObserved : Fragment → Result SummaryParts EvalFault → Type 0
  IsObserved t (Ok s) = IsSummaryOf def (observed t) s × (PassesLimit s.rel → ⊥)
  IsObserved t (Err (faults.Wide step)) =
      (step ≡ 0) × (rows : List (List Term)) × IsRelationOf def (observed t) rows × PassesLimit rows
  IsObserved t (Err faults.Memory) = Unit {0}

  -- the summary of a tree, where none of the steps that lead to it passes the limit; or the first that does
  abbrev pub IsReached : List Place → Fragment → Result SummaryParts EvalFault → Type 0
  IsReached places u (Ok s) = IsSummaryOf def u s × AreWithin def places
  IsReached places u (Err (faults.Wide step)) = (place : Place) × IsFirstOf def places place × (step ≡ place.step)
  IsReached places u (Err faults.Memory) = Unit {0}

  -- the summary of the whole tree, where no step above the path passes the limit; or the first that does
  abbrev pub IsClimbed : Path → Fragment → Result SummaryParts EvalFault → Type 0
  IsClimbed path f result = IsReached (steps_above def [] path f) f result
