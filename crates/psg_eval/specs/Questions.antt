-- The evaluator's answers as those of a question.
use Rattle.std.specs.Prelude.{◌≡◌, Result, Ok, Err}
use Rattle.psg_eval.specs.declared.question.FocusFault.{FocusFault}
use Rattle.psg_eval.specs.declared.question.FocusFault.TheVariants as questions
use Rattle.psg_eval.specs.declared.summary.EvalFault.{EvalFault}
use Rattle.psg_eval.specs.declared.summary.EvalFault.TheVariants as faults
use Rattle.psg_eval.specs.declared.summary.SummaryParts.{SummaryParts}

-- the same summary, or the same fault without its step
abbrev pub IsAsked : Result SummaryParts EvalFault → Result SummaryParts FocusFault → Type 0
IsAsked (Ok s) (Ok t) = t ≡ s
IsAsked (Err (faults.Wide step)) (Err questions.Wide) = Unit {0}
IsAsked (Err faults.Memory) (Err questions.Memory) = Unit {0}
IsAsked _ _ = ⊥
