use Rattle.std.proofs.Common.{rules, Err, ◌≡◌, ◌+◌, ◌-◌, ◌<◌, ◌^◌, ◌∙◌, min, length, sym, subst, ap, ap₂, arith}
use Rattle.psg_grammar.specs.declared.types.Kind.TheVariants as kinds
use Rattle.psg_eval.specs.declared.partial.Partial.{Partial}
use Rattle.psg_eval.specs.Own.{IsOwnStep}
use Rattle.psg_eval.specs.Partials.{IsPartial}
use Rattle.psg_eval.specs.Stages.{MatchMade}
use Rattle.psg_eval.specs.Summaries.{slot_kinds}
use Rattle.psg_eval.specs.Work.{rows_work}
use Rattle.psg_eval.proofs.NodeSteps.{own_made, own_wide}
use Rattle.psg_eval.proofs.Numbers.{numbered_fault, numbered_if, numbered_step}
use Rattle.psg_eval.proofs.parts.all_parts.Goals as goal
use Rattle.psg_eval.proofs.parts.all_parts.Goals.{In_ok-first}

first_partial : (c : In_ok-first) → IsPartial c.args.definition.now (kinds.Phylum c.args.operator.now.phylum) (slot_kinds c.args.definition.now c.args.operator.now.items) c.in_ok-first.first
first_partial c =
    numbered_if (λ (p : Partial). IsPartial c.args.definition.now (kinds.Phylum c.args.operator.now.phylum) (slot_kinds c.args.definition.now c.args.operator.now.items) p)
    c.first_step.result 0 c.in_ok-first.first c.in_ok-first.ensures c.first_step.ensures.partial

pub first_step-requires-clause-names : goal.first_step-requires-clause-names
first_step-requires-clause-names c = c.requires.takes.names_fit

pub with_parts-requires-clause-partial : goal.with_parts-requires-clause-partial
with_parts-requires-clause-partial c = (
  kinds.Phylum c.args.operator.now.phylum,
  slot_kinds c.args.definition.now c.args.operator.now.items,
  c.requires.takes.kinds_fit,
  first_partial (goal.at.with_parts-requires-clause-partial c).In_ok-first,
)

pub returns-in_err-first-clause-made : goal.returns-in_err-first-clause-made
returns-in_err-first-clause-made c = λ o f found node all.
    let def = c.args.definition.now in
    let n = length c.args.children.now in
    let fault = c.in_err-first.field-0.0 in
    let d : c.from_residual-in_err-first.result ≡ Err fault = search rules in
    subst (MatchMade def f n) (sym d)
    (numbered_fault def f n (IsOwnStep def c.args.operator.now c.args.names.now) c.first_step.result 0 fault c.in_err-first.ensures c.first_step.ensures.step
    (own_wide def c.requires.sound o c.args.operator.now found c.args.names.now f node))

pub returns-in_err-whole-clause-made : goal.returns-in_err-whole-clause-made
returns-in_err-whole-clause-made c = λ o f found node all.
    let def = c.args.definition.now in
    let n = length c.args.children.now in
    let first = c.in_ok-first.first in
    let fault = c.in_err-whole.field-0.0 in
    let d : c.from_residual-in_err-whole.result ≡ Err fault = search rules in
    let start = numbered_step (IsOwnStep def c.args.operator.now c.args.names.now) c.first_step.result 0 first c.in_ok-first.ensures c.first_step.ensures.step in
    subst (MatchMade def f n) (sym d) (c.in_err-whole.ensures.made f node.parts all (own_made def c.requires.sound o c.args.operator.now found c.args.names.now f node first start.0 start.1))

pub returns-clause-made : goal.returns-clause-made
returns-clause-made c = λ o f found node all.
    let def = c.args.definition.now in
    let first = c.in_ok-first.first in
    let start = numbered_step (IsOwnStep def c.args.operator.now c.args.names.now) c.first_step.result 0 first c.in_ok-first.ensures c.first_step.ensures.step in
    c.in_ok-whole.ensures.made f node.parts all (own_made def c.requires.sound o c.args.operator.now found c.args.names.now f node first start.0 start.1)

pub returns-clause-partial : goal.returns-clause-partial
returns-clause-partial c =
    c.in_ok-whole.ensures.partial (kinds.Phylum c.args.operator.now.phylum) (slot_kinds c.args.definition.now c.args.operator.now.items) c.requires.takes.kinds_fit
    (first_partial (goal.at.returns-clause-partial c).In_ok-first)

pub returns-clause-seen : goal.returns-clause-seen
returns-clause-seen c =
    let none = numbered_if (λ (p : Partial). p.seen ≡ 0) c.first_step.result 0 c.in_ok-first.first c.in_ok-first.ensures c.first_step.ensures.seen in
    omega (arith, none, c.in_ok-whole.ensures.seen)

pub returns-clause-work : goal.returns-clause-work
returns-clause-work c =
    let op = c.args.operator.now in
    let first = c.in_ok-first.first in
    let start = numbered_step (IsOwnStep c.args.definition.now op c.args.names.now) c.first_step.result 0 first c.in_ok-first.ensures c.first_step.ensures.step in
    let (joins, joined, spent) = c.in_ok-whole.ensures.work in
    let none = numbered_if (λ (p : Partial). p.seen ≡ 0) c.first_step.result 0 first c.in_ok-first.ensures c.first_step.ensures.seen in
    let rows = ap length c.as_slice-rows.ensures in
    let items = ap length c.as_slice-items.ensures in
    let few : length op.items < 2 ^ 32 = c.requires.operator.few_items in
    let terms : c.saturating_add.result ≡ length op.items + 1 = omega (arith, items, few, c.saturating_add.ensures) in
    let own = c.rows_work.ensures ∙ ap₂ (λ r t. min (rows_work r t) (2 ^ 64 - 1)) rows terms in (
      c.rows_work.result + joins,
      record { first = first; own = start.0; none_seen = none; joins = joins; joined = joined; all = ap (λ n. n + joins) own },
      omega (arith, spent, c.in_ok-spend.ensures.taken),
    )
