use Rattle.std.proofs.Common.{◌∙◌, ap, sym, subst}
use Rattle.std.specs.Prelude.{Ok}
use Rattle.psg_eval.specs.declared.summary.SummaryParts.{SummaryParts}
use Rattle.psg_eval.specs.Starts.{IsOperatorStart, IsWhole}
use Rattle.psg_eval.specs.Summaries.{Answers, IsSummary}
use Rattle.psg_eval.proofs.StartLaws.{whole_answers, whole_seen}
use Rattle.psg_eval.proofs.node.node.Goals as goal
use Rattle.psg_eval.proofs.node.node.Goals.{In_ok-summary}

whole : (c : In_ok-summary) → IsWhole c.args.definition.now c.args.operator.now c.in-Whole.given
whole c = subst (IsOperatorStart c.args.definition.now c.args.operator.now) c.in-Whole.is c.requires.start

pub returns-clause-answer : goal.returns-clause-answer
returns-clause-answer c = λ o f found node all.
    let is = whole (goal.at.returns-clause-answer c).In_ok-summary in
    subst (λ (s : SummaryParts). Answers c.args.definition.now f (Ok s)) (sym c.in_ok-summary.ensures)
    (whole_answers c.args.definition.now c.args.operator.now c.in-Whole.given is c.args.names.now c.args.children.now c.requires.takes o f found node all)

pub returns-clause-summary : goal.returns-clause-summary
returns-clause-summary c =
    subst (IsSummary c.args.definition.now) (sym c.in_ok-summary.ensures) (whole (goal.at.returns-clause-summary c).In_ok-summary).usual

pub returns-clause-kind : goal.returns-clause-kind
returns-clause-kind c = ap (λ (s : SummaryParts). s.kind) c.in_ok-summary.ensures ∙ (whole (goal.at.returns-clause-kind c).In_ok-summary).kind

pub returns-clause-seen : goal.returns-clause-seen
returns-clause-seen c =
    ap (λ (s : SummaryParts). s.seen) c.in_ok-summary.ensures
    ∙ whole_seen c.args.definition.now c.args.operator.now c.in-Whole.given (whole (goal.at.returns-clause-seen c).In_ok-summary) c.args.names.now c.args.children.now c.requires.takes
