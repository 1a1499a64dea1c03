use Rattle.std.proofs.Common.{rules, Err, ◌≡◌, List, length, take, refl, sym, subst, arith}
use Rattle.std.specs.Prelude.{sum_by}
use Rattle.psg_grammar.specs.declared.types.Kind.TheVariants as kinds
use Rattle.psg_grammar.specs.declared.types.Kind.{Kind}
use Rattle.psg_eval.specs.declared.summary.SummaryParts.{SummaryParts}
use Rattle.psg_eval.specs.Partials.{IsPartial}
use Rattle.psg_eval.specs.Stages.{kinds_of, MatchMade}
use Rattle.psg_eval.specs.Starts.{IsOwnBegun}
use Rattle.psg_eval.proofs.NodeSteps.{own_made}
use Rattle.psg_eval.proofs.StartLaws.{named_for, some_names}
use Rattle.psg_eval.proofs.node.named_children.Goals as goal
use Rattle.psg_eval.proofs.node.named_children.Goals.{In_ok-first}

begun : (c : In_ok-first) → IsOwnBegun c.args.definition.now c.args.operator.now c.args.names.now c.in_ok-first.first
begun c =
    let def = c.args.definition.now in
    let op = c.args.operator.now in
    named_for def op c.args.named.now c.requires.named c.args.names.now c.requires.takes.names_fit c.first_name-name.result.now c.first_name-name.ensures c.in_ok-first.first
    (c.in_ok-first.ensures def op c.requires.named)

begins : (c : In_ok-first) → IsPartial c.args.definition.now (kinds.Phylum c.args.operator.now.phylum) (kinds_of c.args.children.now) c.in_ok-first.first
begins c =
    let def = c.args.definition.now in
    let op = c.args.operator.now in
    subst (λ (ks : List Kind). IsPartial def (kinds.Phylum op.phylum) ks c.in_ok-first.first) (sym c.requires.takes.kinds_fit) (begun c).partial

pub first_name-name-requires : goal.first_name-name-requires
first_name-name-requires c =
    let one = some_names c.args.definition.now c.args.operator.now c.args.named.now c.requires.named c.args.names.now c.requires.takes.names_fit in omega (arith, one)

pub with_children-requires-clause-partial : goal.with_children-requires-clause-partial
with_children-requires-clause-partial c = (kinds.Phylum c.args.operator.now.phylum, begins (goal.at.with_children-requires-clause-partial c).In_ok-first)

pub returns-in_err-whole-clause-made : goal.returns-in_err-whole-clause-made
returns-in_err-whole-clause-made c = λ o f found node all.
    let def = c.args.definition.now in
    let op = c.args.operator.now in
    let fault = c.in_err-whole.field-0.0 in
    let d : c.from_residual-in_err-whole.result ≡ Err fault = search rules in
    let is = begun (goal.at.returns-in_err-whole-clause-made c).In_ok-first in
    subst (MatchMade def f (length c.args.children.now)) (sym d)
    (c.in_err-whole.ensures.made f node.parts all (own_made def c.requires.sound o op found c.args.names.now f node c.in_ok-first.first is.step.0 is.step.1))

pub returns-clause-made : goal.returns-clause-made
returns-clause-made c = λ o f found node all.
    let def = c.args.definition.now in
    let op = c.args.operator.now in
    let is = begun (goal.at.returns-clause-made c).In_ok-first in
    c.in_ok-whole.ensures.made f node.parts all (own_made def c.requires.sound o op found c.args.names.now f node c.in_ok-first.first is.step.0 is.step.1)

pub returns-clause-partial : goal.returns-clause-partial
returns-clause-partial c = c.in_ok-whole.ensures.partial (kinds.Phylum c.args.operator.now.phylum) (begins (goal.at.returns-clause-partial c).In_ok-first)

pub returns-clause-seen : goal.returns-clause-seen
returns-clause-seen c =
    let none : sum_by (λ (s : SummaryParts). s.seen) (take 0 c.args.children.now) ≡ 0 = refl in
    omega (arith, none, (begun (goal.at.returns-clause-seen c).In_ok-first).seen, c.in_ok-whole.ensures.seen)
