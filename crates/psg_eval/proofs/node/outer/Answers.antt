use Rattle.std.proofs.Common.{rules, Err, ◌≡◌, ◌+◌, sym, subst}
use Rattle.psg_grammar.specs.declared.types.Kind.TheVariants as kinds
use Rattle.psg_eval.specs.declared.partial.Partial.{Partial}
use Rattle.psg_eval.specs.Outside.{IsClosed}
use Rattle.psg_eval.specs.Stages.{MatchOuter}
use Rattle.psg_eval.proofs.NodeSteps.{closed_outside, made_outer, outside_wide, same_outside}
use Rattle.psg_eval.proofs.Numbers.{numbered_fault, numbered_if, numbered_step}
use Rattle.psg_eval.proofs.node.outer.Goals as goal

pub returns-then-not-operator-clause-made : goal.returns-then-not-operator-clause-made
returns-then-not-operator-clause-made c = λ f parts of_kind scope many seen made.
    same_outside c.args.definition.now c.requires.sound c.args.operator.now c.args.whole c.args.count f parts of_kind scope many seen made c.if-not-operator.true

pub returns-in_err-outside-clause-made : goal.returns-in_err-outside-clause-made
returns-in_err-outside-clause-made c = λ f parts of_kind scope many seen made.
    let def = c.args.definition.now in
    let op = c.args.operator.now in
    let fault = c.in_err-outside.field-0.0 in
    let d : c.from_residual.result ≡ Err fault = search rules in
    subst (MatchOuter def f (kinds.Phylum op.phylum)) (sym d)
    (made_outer def f (kinds.Phylum op.phylum) c.args.count fault
    (numbered_fault def f c.args.count (IsClosed def c.args.whole) c.closed.result (c.args.count + 1) fault c.in_err-outside.ensures c.closed.ensures.step
    (outside_wide def c.requires.sound op c.args.whole c.args.count f parts of_kind scope many seen made c.if-not-operator.false)))

pub returns-clause-made : goal.returns-clause-made
returns-clause-made c = λ f parts of_kind scope many seen made.
    let def = c.args.definition.now in
    let whole = c.args.whole in
    let n = c.args.count + 1 in
    let outside = c.in_ok-outside.outside in
    let step = numbered_step (IsClosed def whole) c.closed.result n outside c.in_ok-outside.ensures c.closed.ensures.step in
    let same = numbered_if (λ (p : Partial). p.seen ≡ whole.seen) c.closed.result n outside c.in_ok-outside.ensures c.closed.ensures.seen in
    closed_outside def c.requires.sound c.args.operator.now whole c.args.count f parts of_kind scope many seen made c.if-not-operator.false outside step.0 same step.1
