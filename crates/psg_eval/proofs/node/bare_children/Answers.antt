use Rattle.std.proofs.Common.{rules, Err, ◌≡◌, List, length, sym, subst, arith}
use Rattle.psg_grammar.specs.declared.types.Kind.TheVariants as kinds
use Rattle.psg_grammar.specs.declared.types.Kind.{Kind}
use Rattle.psg_eval.specs.Partials.{IsPartial}
use Rattle.psg_eval.specs.Stages.{MatchMade}
use Rattle.psg_eval.proofs.NodeSteps.{own_made}
use Rattle.psg_eval.proofs.StartLaws.{bare_for}
use Rattle.psg_eval.proofs.node.bare_children.Goals as goal

pub with_all-requires-clause-partial : goal.with_all-requires-clause-partial
with_all-requires-clause-partial c =
    let def = c.args.definition.now in
    let op = c.args.operator.now in
    (kinds.Phylum op.phylum, subst (λ (ks : List Kind). IsPartial def (kinds.Phylum op.phylum) ks c.args.bare.now) (sym c.requires.takes.kinds_fit) c.requires.bare.partial)

pub returns-in_err-whole-clause-made : goal.returns-in_err-whole-clause-made
returns-in_err-whole-clause-made c = λ o f found node all.
    let def = c.args.definition.now in
    let op = c.args.operator.now in
    let bare = c.args.bare.now in
    let fault = c.in_err-whole.field-0.0 in
    let d : c.from_residual.result ≡ Err fault = search rules in
    let begun = bare_for def op c.args.names.now c.requires.takes.names_fit bare c.requires.bare in
    subst (MatchMade def f (length c.args.children.now)) (sym d)
    (c.in_err-whole.ensures.made f node.parts all (own_made def c.requires.sound o op found c.args.names.now f node bare begun.step.0 begun.step.1))

pub returns-clause-made : goal.returns-clause-made
returns-clause-made c = λ o f found node all.
    let def = c.args.definition.now in
    let op = c.args.operator.now in
    let bare = c.args.bare.now in
    let begun = bare_for def op c.args.names.now c.requires.takes.names_fit bare c.requires.bare in
    c.in_ok-whole.ensures.made f node.parts all (own_made def c.requires.sound o op found c.args.names.now f node bare begun.step.0 begun.step.1)

pub returns-clause-partial : goal.returns-clause-partial
returns-clause-partial c =
    let def = c.args.definition.now in
    let op = c.args.operator.now in
    c.in_ok-whole.ensures.partial (kinds.Phylum op.phylum)
    (subst (λ (ks : List Kind). IsPartial def (kinds.Phylum op.phylum) ks c.args.bare.now) (sym c.requires.takes.kinds_fit) c.requires.bare.partial)

pub returns-clause-seen : goal.returns-clause-seen
returns-clause-seen c = omega (arith, c.requires.bare.seen, c.in_ok-whole.ensures.seen)
