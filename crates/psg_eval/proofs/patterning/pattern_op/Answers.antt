use Rattle.std.proofs.Common.{rules, Ok, Err, ◌≡◌, ◌∙◌, List, Some, get_or, slice_get, sym, subst, ap}
use Rattle.psg_terms.proofs.Lists.{slice_get_once}
use Rattle.psg_grammar.specs.declared.types.Kind.TheVariants as kinds
use Rattle.psg_grammar.specs.declared.types.Operator.{Operator}
use Rattle.psg_grammar.proofs.SoundParts.{operator_sound}
use Rattle.psg_eval.specs.declared.summary.SummaryParts.{SummaryParts}
use Rattle.psg_eval.specs.Patterns.{TakesChildren}
use Rattle.psg_eval.specs.Summaries.{Answers, IsSummary}
use Rattle.psg_eval.proofs.NodeSteps.{place_there}
use Rattle.psg_eval.proofs.patterning.pattern_op.Goals as goal
use Rattle.psg_eval.proofs.patterning.pattern_op.Goals.{After-index-as_slice-op}

there : (c : After-index-as_slice-op) → slice_get c.args.definition.now.operators c.args.op ≡ Some c.index-as_slice-op.result
there c =
    let read = c.index-as_slice-op.result in
    place_there c.args.definition.now.operators c.args.op c.requires.takes.0 read c.requires.takes.1
    (subst (λ (os : List Operator). read ≡ get_or os c.args.op read) c.as_slice.ensures c.index-as_slice-op.is)

pub node_with-requires-clause-operator : goal.node_with-requires-clause-operator
node_with-requires-clause-operator c =
    operator_sound c.args.definition.now c.requires.sound c.args.op c.index-as_slice-op.result (there (goal.at.node_with-requires-clause-operator c).After-index-as_slice-op)

pub node_with-requires-clause-takes : goal.node_with-requires-clause-takes
node_with-requires-clause-takes c =
    let def = c.args.definition.now in
    let read = c.index-as_slice-op.result in
    subst (λ (o : Operator). TakesChildren def o c.args.names.now c.args.children.now)
    (slice_get_once def.operators c.args.op c.requires.takes.0 read c.requires.takes.1 (there (goal.at.node_with-requires-clause-takes c).After-index-as_slice-op)) c.requires.takes.2

pub returns-in_err-summary-clause-answer : goal.returns-in_err-summary-clause-answer
returns-in_err-summary-clause-answer c = λ f node all.
    let def = c.args.definition.now in
    let fault = c.in_err-summary.field-0.0 in
    let d : c.from_residual.result ≡ Err fault = search rules in
    subst (Answers def f) (sym d) (c.in_err-summary.ensures.answer c.args.op f (there (goal.at.returns-in_err-summary-clause-answer c).After-index-as_slice-op) node all)

pub returns-clause-answer : goal.returns-clause-answer
returns-clause-answer c = λ f node all.
    subst (λ (s : SummaryParts). Answers c.args.definition.now f (Ok s)) (sym c.new.ensures)
    (c.in_ok-summary.ensures.answer c.args.op f (there (goal.at.returns-clause-answer c).After-index-as_slice-op) node all)

pub returns-clause-pattern : goal.returns-clause-pattern
returns-clause-pattern c = subst (IsSummary c.args.definition.now) (sym c.new.ensures) c.in_ok-summary.ensures.summary

pub returns-clause-kind : goal.returns-clause-kind
returns-clause-kind c = λ o at.
    let def = c.args.definition.now in
    let read = c.index-as_slice-op.result in
    ap (λ (s : SummaryParts). s.kind) c.new.ensures ∙ c.in_ok-summary.ensures.kind
    ∙ ap (λ (x : Operator). kinds.Phylum x.phylum) (slice_get_once def.operators c.args.op read o (there (goal.at.returns-clause-kind c).After-index-as_slice-op) at)

pub returns-clause-seen : goal.returns-clause-seen
returns-clause-seen c = ap (λ (s : SummaryParts). s.seen) c.new.ensures ∙ c.in_ok-summary.ensures.seen
