use Rattle.std.proofs.Common.{rules, Err, ◌≡◌, List, sym, subst}
use Rattle.psg_grammar.specs.declared.types.Kind.{Kind}
use Rattle.psg_grammar.specs.declared.types.Kind.TheVariants as kinds
use Rattle.psg_eval.specs.declared.partial.Partial.{Partial}
use Rattle.psg_eval.specs.Own.{IsOwnStep}
use Rattle.psg_eval.specs.Partials.{IsPartial}
use Rattle.psg_eval.specs.Stages.{kinds_of}
use Rattle.psg_eval.specs.StepRows.{MatchSteps}
use Rattle.psg_eval.specs.Summaries.{slot_kinds}
use Rattle.psg_eval.proofs.Nodes.{node_scope}
use Rattle.psg_eval.proofs.NodeSteps.{own_made, own_wide}
use Rattle.psg_eval.proofs.Numbers.{numbered_fault, numbered_if, numbered_step}
use Rattle.psg_eval.proofs.StepLists.{done_all, done_partial, grown_fault, node_grows, step_fault}
use Rattle.psg_eval.proofs.steps.operator_steps.Goals as goal
use Rattle.psg_eval.proofs.steps.operator_steps.Goals.{In_ok-first}

first_partial : (c : In_ok-first) → IsPartial c.args.definition.now (kinds.Phylum c.args.operator.now.phylum) (kinds_of c.args.children.now) c.in_ok-first.first
first_partial c =
    let def = c.args.definition.now in
    let op = c.args.operator.now in
    subst (λ (ks : List Kind). IsPartial def (kinds.Phylum op.phylum) ks c.in_ok-first.first) (sym c.requires.takes.kinds_fit)
    (numbered_if (λ (p : Partial). IsPartial def (kinds.Phylum op.phylum) (slot_kinds def op.items) p) c.first_step.result 0 c.in_ok-first.first c.in_ok-first.ensures c.first_step.ensures.partial)

pub first_step-requires-clause-names : goal.first_step-requires-clause-names
first_step-requires-clause-names c = c.requires.takes.names_fit

pub grow-requires-clause-partial : goal.grow-requires-clause-partial
grow-requires-clause-partial c = (kinds.Phylum c.args.operator.now.phylum, first_partial (goal.at.grow-requires-clause-partial c).In_ok-first)

pub grow-requires-clause-summaries : goal.grow-requires-clause-summaries
grow-requires-clause-summaries c = c.requires.takes.summaries

pub whole_steps-requires-clause-partial : goal.whole_steps-requires-clause-partial
whole_steps-requires-clause-partial c = λ rows.
    let kind = kinds.Phylum c.args.operator.now.phylum in
    let made = c.in_ok-made.made in (
      kind,
      done_partial c.args.definition.now c.args.children.now kind made.before.items made.last c.in_ok-made.ensures.ended rows
          (c.in_ok-made.ensures.partial kind (first_partial (goal.at.whole_steps-requires-clause-partial c).In_ok-first)),
    )

pub returns-in_err-first : goal.returns-in_err-first
returns-in_err-first c = λ o f found node all.
    let def = c.args.definition.now in
    let op = c.args.operator.now in
    let fault = c.in_err-first.field-0.0 in
    let d : c.from_residual.result ≡ Err fault = search rules in
    subst (MatchSteps def f) (sym d)
    (step_fault def f 0 fault
    (numbered_fault def f 0 (IsOwnStep def op c.args.names.now) c.first_step.result 0 fault c.in_err-first.ensures c.first_step.ensures.step
    (own_wide def c.requires.sound o op found c.args.names.now f node)))

pub returns-in_err-made : goal.returns-in_err-made
returns-in_err-made c = λ o f found node all.
    let def = c.args.definition.now in
    let op = c.args.operator.now in
    let first = c.in_ok-first.first in
    let fault = c.in_err-made.field-0.0 in
    let d : c.from_residual-in_err-made.result ≡ Err fault = search rules in
    let start = numbered_step (IsOwnStep def op c.args.names.now) c.first_step.result 0 first c.in_ok-first.ensures c.first_step.ensures.step in
    subst (MatchSteps def f) (sym d)
    (grown_fault def f fault
    (c.in_err-made.ensures.steps f (node_grows def c.requires.sound f node.parts c.args.children.now all) (own_made def c.requires.sound o op found c.args.names.now f node first start.0 start.1)))

pub returns-in_err-all : goal.returns-in_err-all
returns-in_err-all c = λ o f found node all.
    let def = c.args.definition.now in
    let op = c.args.operator.now in
    let first = c.in_ok-first.first in
    let made = c.in_ok-made.made in
    let fault = c.in_err-all.field-0.0 in
    let d : c.from_residual-in_err-all.result ≡ Err fault = search rules in
    let grows = node_grows def c.requires.sound f node.parts c.args.children.now all in
    let start = numbered_step (IsOwnStep def op c.args.names.now) c.first_step.result 0 first c.in_ok-first.ensures c.first_step.ensures.step in
    subst (MatchSteps def f) (sym d)
    (c.in_err-all.ensures f node.parts (node_scope def o op found c.args.names.now f node)
    (c.in_ok-made.ensures.steps f grows (own_made def c.requires.sound o op found c.args.names.now f node first start.0 start.1))
    (done_all f c.args.children.now made.before.items made.last grows.count c.in_ok-made.ensures.ended))

pub returns : goal.returns
returns c = λ o f found node all.
    let def = c.args.definition.now in
    let op = c.args.operator.now in
    let first = c.in_ok-first.first in
    let made = c.in_ok-made.made in
    let grows = node_grows def c.requires.sound f node.parts c.args.children.now all in
    let start = numbered_step (IsOwnStep def op c.args.names.now) c.first_step.result 0 first c.in_ok-first.ensures c.first_step.ensures.step in
    c.in_ok-all.ensures f node.parts (node_scope def o op found c.args.names.now f node)
    (c.in_ok-made.ensures.steps f grows (own_made def c.requires.sound o op found c.args.names.now f node first start.0 start.1))
    (done_all f c.args.children.now made.before.items made.last grows.count c.in_ok-made.ensures.ended)
