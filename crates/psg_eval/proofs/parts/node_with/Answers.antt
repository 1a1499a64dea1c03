use Rattle.std.proofs.Common.{rules, Ok, Err, ◌≡◌, ◌+◌, ◌<◌, ◌^◌, ◌∙◌, length, refl, sym, subst, ap, arith}
use Rattle.psg_terms.specs.Weight.{weight_of}
use Rattle.psg_grammar.specs.declared.types.Kind.TheVariants as kinds
use Rattle.psg_eval.specs.declared.summary.SummaryParts.{SummaryParts}
use Rattle.psg_eval.specs.Summaries.{Answers, IsSummary, slot_kinds}
use Rattle.psg_eval.proofs.CellRows.{whole_summary}
use Rattle.psg_eval.proofs.NodeSteps.{outer_answers, slot_count}
use Rattle.psg_eval.proofs.Numbers.{fault_answers}
use Rattle.psg_eval.proofs.PatternSteps.{suits_many, whole_parts}
use Rattle.psg_eval.proofs.parts.node_with.Goals as goal

pub outer-requires-clause-room : goal.outer-requires-clause-room
outer-requires-clause-room c =
    let items = c.args.operator.now.items in
    let a = slot_count c.args.definition.now items in
    let k = suits_many c.args.definition.now c.args.children.now (slot_kinds c.args.definition.now items) c.requires.takes.kinds_fit in
    let few : length items < 2 ^ 32 = c.requires.operator.few_items in
    omega arith

pub returns-in_err-whole-clause-answer : goal.returns-in_err-whole-clause-answer
returns-in_err-whole-clause-answer c = λ o f found node all.
    let fault = c.in_err-whole.field-0.0 in
    let d : c.from_residual.result ≡ Err fault = search rules in
    subst (Answers c.args.definition.now f) (sym d) (fault_answers c.args.definition.now f (length c.args.children.now) fault (c.in_err-whole.ensures.made o f found node all))

pub returns-in_err-outside-clause-answer : goal.returns-in_err-outside-clause-answer
returns-in_err-outside-clause-answer c = λ o f found node all.
    let def = c.args.definition.now in
    let op = c.args.operator.now in
    let fault = c.in_err-outside.field-0.0 in
    let d : c.from_residual-in_err-outside.result ≡ Err fault = search rules in
    subst (Answers def f) (sym d)
    (outer_answers def f (kinds.Phylum op.phylum) fault
    (whole_parts def o op found c.args.names.now f node c.args.children.now all c.in_ok-whole.whole c.in_ok-whole.ensures.seen (Err fault) c.in_err-outside.ensures.made (c.in_ok-whole.ensures.made o f found node all)))

pub returns-clause-answer : goal.returns-clause-answer
returns-clause-answer c = λ o f found node all.
    let def = c.args.definition.now in
    let op = c.args.operator.now in
    subst (λ (s : SummaryParts). Answers def f (Ok s)) (sym c.in_ok-summary.ensures)
    (whole_parts def o op found c.args.names.now f node c.args.children.now all c.in_ok-whole.whole c.in_ok-whole.ensures.seen (Ok c.in_ok-outside.outside) c.in_ok-outside.ensures.made (c.in_ok-whole.ensures.made o f found node all))

pub returns-clause-summary : goal.returns-clause-summary
returns-clause-summary c = subst (IsSummary c.args.definition.now) (sym c.in_ok-summary.ensures)
    (whole_summary c.args.definition.now (kinds.Phylum c.args.operator.now.phylum) c.in_ok-outside.outside c.in_ok-outside.ensures.partial)

pub returns-clause-kind : goal.returns-clause-kind
returns-clause-kind c = ap (λ (s : SummaryParts). s.kind) c.in_ok-summary.ensures

pub returns-clause-seen : goal.returns-clause-seen
returns-clause-seen c = ap (λ (s : SummaryParts). s.seen) c.in_ok-summary.ensures ∙ c.in_ok-outside.ensures.seen ∙ c.in_ok-whole.ensures.seen

pub returns-clause-work : goal.returns-clause-work
returns-clause-work c =
    let (before, whole, spent) = c.in_ok-whole.ensures.work in (
      before + weight_of c.in_ok-whole.whole.rel,
      (c.in_ok-whole.whole, before, whole, refl),
      omega (arith, spent, c.in_ok-spend.ensures.taken, c.weight.ensures.weight),
    )
