use Rattle.std.proofs.Common.{rules, Err, ◌≡◌, List, length, take, refl, sym, subst, arith}
use Rattle.std.specs.Prelude.{sum_by}
use Rattle.psg_eval.specs.declared.summary.SummaryParts.{SummaryParts}
use Rattle.psg_grammar.specs.declared.types.Kind.TheVariants as kinds
use Rattle.psg_grammar.specs.declared.types.Kind.{Kind}
use Rattle.psg_eval.specs.declared.partial.Partial.{Partial}
use Rattle.psg_eval.specs.Own.{IsOwnStep}
use Rattle.psg_eval.specs.Partials.{IsPartial}
use Rattle.psg_eval.specs.Stages.{kinds_of, MatchMade}
use Rattle.psg_eval.specs.Summaries.{slot_kinds}
use Rattle.psg_eval.proofs.NodeSteps.{own_made, own_wide}
use Rattle.psg_eval.proofs.Numbers.{numbered_fault, numbered_if, numbered_step}
use Rattle.psg_eval.proofs.node.all_children.Goals as goal
use Rattle.psg_eval.proofs.node.all_children.Goals.{In_ok-first}

first_partial : (c : In_ok-first) → IsPartial c.args.definition.now (kinds.Phylum c.args.operator.now.phylum) (kinds_of c.args.children.now) c.in_ok-first.first
first_partial c =
    let def = c.args.definition.now in
    let op = c.args.operator.now in
    subst (λ (ks : List Kind). IsPartial def (kinds.Phylum op.phylum) ks c.in_ok-first.first) (sym c.requires.takes.kinds_fit)
    (numbered_if (λ (p : Partial). IsPartial def (kinds.Phylum op.phylum) (slot_kinds def op.items) p) c.first_step.result 0 c.in_ok-first.first c.in_ok-first.ensures c.first_step.ensures.partial)

pub first_step-requires-clause-names : goal.first_step-requires-clause-names
first_step-requires-clause-names c = c.requires.takes.names_fit

pub with_children-requires-clause-partial : goal.with_children-requires-clause-partial
with_children-requires-clause-partial c = (kinds.Phylum c.args.operator.now.phylum, first_partial (goal.at.with_children-requires-clause-partial c).In_ok-first)

pub returns-in_err-first-clause-made : goal.returns-in_err-first-clause-made
returns-in_err-first-clause-made c = λ o f found node all.
    let def = c.args.definition.now in
    let n = length c.args.children.now in
    let fault = c.in_err-first.field-0.0 in
    let d : c.from_residual.result ≡ Err fault = search rules in
    subst (MatchMade def f n) (sym d)
    (numbered_fault def f n (IsOwnStep def c.args.operator.now c.args.names.now) c.first_step.result 0 fault c.in_err-first.ensures c.first_step.ensures.step
    (own_wide def c.requires.sound o c.args.operator.now found c.args.names.now f node))

pub returns-in_err-whole-clause-made : goal.returns-in_err-whole-clause-made
returns-in_err-whole-clause-made c = λ o f found node all.
    let def = c.args.definition.now in
    let n = length c.args.children.now in
    let first = c.in_ok-first.first in
    let fault = c.in_err-whole.field-0.0 in
    let d : c.from_residual-in_err-whole.result ≡ Err fault = search rules in
    let start = numbered_step (IsOwnStep def c.args.operator.now c.args.names.now) c.first_step.result 0 first c.in_ok-first.ensures c.first_step.ensures.step in
    subst (MatchMade def f n) (sym d) (c.in_err-whole.ensures.made f node.parts all (own_made def c.requires.sound o c.args.operator.now found c.args.names.now f node first start.0 start.1))

pub returns-clause-made : goal.returns-clause-made
returns-clause-made c = λ o f found node all.
    let def = c.args.definition.now in
    let first = c.in_ok-first.first in
    let start = numbered_step (IsOwnStep def c.args.operator.now c.args.names.now) c.first_step.result 0 first c.in_ok-first.ensures c.first_step.ensures.step in
    c.in_ok-whole.ensures.made f node.parts all (own_made def c.requires.sound o c.args.operator.now found c.args.names.now f node first start.0 start.1)

pub returns-clause-partial : goal.returns-clause-partial
returns-clause-partial c = c.in_ok-whole.ensures.partial (kinds.Phylum c.args.operator.now.phylum) (first_partial (goal.at.returns-clause-partial c).In_ok-first)

pub returns-clause-seen : goal.returns-clause-seen
returns-clause-seen c =
    let silent = numbered_if (λ (p : Partial). p.seen ≡ 0) c.first_step.result 0 c.in_ok-first.first c.in_ok-first.ensures c.first_step.ensures.seen in
    let none : sum_by (λ (s : SummaryParts). s.seen) (take 0 c.args.children.now) ≡ 0 = refl in
    omega (arith, silent, c.in_ok-whole.ensures.seen, none)
