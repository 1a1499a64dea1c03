use Rattle.std.proofs.Common.{rules, Ok, Err, ◌≡◌, ◌∙◌, sym, subst, ap}
use Rattle.psg_grammar.specs.Fragments.{cell}
use Rattle.psg_grammar.specs.declared.types.Kind.TheVariants as kinds
use Rattle.psg_eval.specs.declared.summary.SummaryParts.{SummaryParts}
use Rattle.psg_eval.specs.Summaries.{Answers, IsSummary}
use Rattle.psg_eval.proofs.CellRows.{whole_summary}
use Rattle.psg_eval.proofs.Numbers.{fault_answers}
use Rattle.psg_eval.proofs.PatternSteps.{cell_parts_answer}
use Rattle.psg_eval.proofs.patterning.pattern_cell.Goals as goal
use Rattle.psg_eval.proofs.patterning.pattern_cell.Goals.{After-new}

-- the pattern is what is known of the whole
is : (c : After-new) → c.new.result ≡ record { kind = kinds.List c.args.list; header = c.in_ok-whole.whole.header; seen = c.in_ok-whole.whole.seen; rel = c.in_ok-whole.whole.rel }
is c = c.new.ensures ∙ c.in_ok-summary.ensures

pub returns-in_err-whole-clause-answer : goal.returns-in_err-whole-clause-answer
returns-in_err-whole-clause-answer c = λ e r one two.
    let def = c.args.definition.now in
    let fault = c.in_err-whole.field-0.0 in
    let d : c.from_residual.result ≡ Err fault = search rules in
    subst (Answers def (cell c.args.list e r)) (sym d) (fault_answers def (cell c.args.list e r) 2 fault (c.in_err-whole.ensures.made e r one two))

pub returns-clause-answer : goal.returns-clause-answer
returns-clause-answer c = λ e r one two.
    let def = c.args.definition.now in
    subst (λ (s : SummaryParts). Answers def (cell c.args.list e r) (Ok s)) (sym (is (goal.at.returns-clause-answer c).After-new))
    (cell_parts_answer def c.requires.sound c.args.list e r c.args.element.now c.args.rest.now one two c.in_ok-whole.whole c.in_ok-whole.ensures.seen (c.in_ok-whole.ensures.made e r one two))

pub returns-clause-pattern : goal.returns-clause-pattern
returns-clause-pattern c = subst (IsSummary c.args.definition.now) (sym (is (goal.at.returns-clause-pattern c).After-new))
    (whole_summary c.args.definition.now (kinds.List c.args.list) c.in_ok-whole.whole c.in_ok-whole.ensures.partial)

pub returns-clause-kind : goal.returns-clause-kind
returns-clause-kind c = ap (λ (s : SummaryParts). s.kind) (is (goal.at.returns-clause-kind c).After-new)

pub returns-clause-seen : goal.returns-clause-seen
returns-clause-seen c = ap (λ (s : SummaryParts). s.seen) (is (goal.at.returns-clause-seen c).After-new) ∙ c.in_ok-whole.ensures.seen
