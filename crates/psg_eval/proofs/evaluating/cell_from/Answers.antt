use Rattle.std.proofs.Common.{rules, Ok, Err, ◌≡◌, ◌+◌, ◌∙◌, sym, subst, ap, ap₂}
use Rattle.psg_grammar.specs.Fragments.{cell}
use Rattle.psg_grammar.specs.declared.types.Kind.TheVariants as kinds
use Rattle.psg_eval.specs.declared.summary.SummaryParts.{SummaryParts}
use Rattle.psg_eval.specs.Summaries.{Answers, IsSummary, IsSummaryOf}
use Rattle.psg_eval.proofs.CellRows.{cell_answer, whole_summary}
use Rattle.psg_eval.proofs.Numbers.{fault_answers}
use Rattle.psg_eval.proofs.evaluating.cell_from.Goals as goal

pub returns-in_err-whole-clause-answer : goal.returns-in_err-whole-clause-answer
returns-in_err-whole-clause-answer g c = λ e r one two.
    let def = c.args.definition.now in
    let fault = c.in_err-whole.field-0.0 in
    let d : c.from_residual.result ≡ Err fault = search rules in
    subst (Answers def (cell c.args.list e r)) (sym d) (fault_answers def (cell c.args.list e r) 2 fault
    (c.in_err-whole.ensures.made e r (subst (IsSummaryOf def e) (sym c.known.ensures) one) (subst (IsSummaryOf def r) (sym c.known-2.ensures) two)))

pub returns-clause-answer : goal.returns-clause-answer
returns-clause-answer g c = λ e r one two.
    let def = c.args.definition.now in
    subst (λ (s : SummaryParts). Answers def (cell c.args.list e r) (Ok s)) (sym c.in_ok-summary.ensures)
    (let a = subst (IsSummaryOf def e) (sym c.known.ensures) one in
    let b = subst (IsSummaryOf def r) (sym c.known-2.ensures) two in
    cell_answer def c.requires.sound c.args.list e r c.known.result.now c.known-2.result.now a b c.in_ok-whole.whole c.in_ok-whole.ensures.seen (c.in_ok-whole.ensures.made e r a b))

pub returns-clause-summary : goal.returns-clause-summary
returns-clause-summary g c = subst (IsSummary c.args.definition.now) (sym c.in_ok-summary.ensures)
    (whole_summary c.args.definition.now (kinds.List c.args.list) c.in_ok-whole.whole c.in_ok-whole.ensures.partial)

pub returns-clause-kind : goal.returns-clause-kind
returns-clause-kind g c = ap (λ (s : SummaryParts). s.kind) c.in_ok-summary.ensures

pub returns-clause-seen : goal.returns-clause-seen
returns-clause-seen g c =
    ap (λ (s : SummaryParts). s.seen) c.in_ok-summary.ensures ∙ c.in_ok-whole.ensures.seen
    ∙ ap₂ (λ m n. m + n) (ap (λ (s : SummaryParts). s.seen) c.known.ensures) (ap (λ (s : SummaryParts). s.seen) c.known-2.ensures)

pub cell_parts-requires-clause-start : goal.cell_parts-requires-clause-start
cell_parts-requires-clause-start g c = c.cell-start.ensures c.args.definition.now c.requires.starts
