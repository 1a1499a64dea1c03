-- The answers for trees without children.
use Rattle.std.specs.Prelude.{ℕ, ◌≡◌, ◌+◌, ◌≤◌, ◌^◌, List, Result, Ok, Err}
use Rattle.psg_terms.specs.Terms.{Term}
use Rattle.psg_terms.specs.Signature.{Signature}
use Rattle.psg_terms.specs.Relations.{IsRelation}
use Rattle.psg_terms.specs.Weight.{PassesLimit}
use Rattle.psg_grammar.specs.declared.types.Kind.{Kind}
use Rattle.psg_relation.specs.Choices.{HasWide, IsOfRow}
use Rattle.psg_relation.specs.declared.relation.RelFault.{RelFault}
use Rattle.psg_relation.specs.declared.relation.RelFault.TheVariants as rel
use Rattle.psg_scope.specs.declared.header.Header.{Header}
use Rattle.psg_eval.specs.declared.summary.SummaryParts.{SummaryParts}
use Rattle.psg_eval.specs.declared.summary.EvalFault.{EvalFault}
use Rattle.psg_eval.specs.declared.summary.EvalFault.TheVariants as faults

-- The fault of a relation as one of the step. One that is too large is so at its step, unless 32 bits do not hold the
-- number after that of the step.
abbrev pub IsFaultAt : RelFault → ℕ → EvalFault → Type 0
IsFaultAt rel.Wide n (faults.Wide step) = step ≡ n
IsFaultAt rel.Wide n faults.Memory = 2 ^ 32 ≤ n + 1
IsFaultAt rel.Memory n (faults.Wide step) = ⊥
IsFaultAt rel.Memory n faults.Memory = Unit {0}

-- the summary has this kind and header and the relation of the rows, within the limit; or that relation is the wide one
-- of step 0
abbrev pub IsLeafOf : Signature → Kind → Header → List (List Term) → List ℕ → Result SummaryParts EvalFault → Type 0
IsLeafOf sig kind header rows sorts (Ok s) =
    (s.kind ≡ kind) × (s.header ≡ header) × (s.seen ≡ 0) × IsRelation sig sorts (IsOfRow sig rows) s.rel
    × (PassesLimit s.rel → ⊥)
IsLeafOf sig kind header rows sorts (Err (faults.Wide step)) = (step ≡ 0) × HasWide sig sorts (IsOfRow sig rows)
IsLeafOf sig kind header rows sorts (Err faults.Memory) = Unit {0}
