use Rattle.std.proofs.Common.{Ok, ◌∙◌, false, sym, subst, ap}
use Rattle.psg_grammar.specs.Fragments.{ending}
use Rattle.psg_eval.specs.declared.summary.SummaryParts.{SummaryParts}
use Rattle.psg_eval.specs.Summaries.{Answers, IsSummary}
use Rattle.psg_eval.proofs.patterning.pattern_end.Goals as goal

pub returns-clause-answer : goal.returns-clause-answer
returns-clause-answer c = subst (λ (s : SummaryParts). Answers c.args.definition.now (ending c.args.list false) (Ok s)) (sym c.new.ensures) c.in_ok-summary.ensures.answer

pub returns-clause-pattern : goal.returns-clause-pattern
returns-clause-pattern c = subst (IsSummary c.args.definition.now) (sym c.new.ensures) c.in_ok-summary.ensures.summary

pub returns-clause-kind : goal.returns-clause-kind
returns-clause-kind c = ap (λ (s : SummaryParts). s.kind) c.new.ensures ∙ c.in_ok-summary.ensures.answer.0.kind

pub returns-clause-seen : goal.returns-clause-seen
returns-clause-seen c = ap (λ (s : SummaryParts). s.seen) c.new.ensures ∙ c.in_ok-summary.ensures.answer.0.seen
