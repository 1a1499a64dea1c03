use Rattle.std.proofs.Common.{rules, Err, ◌≡◌, ◌∙◌, List, get_or, sym, subst, ap}
use Rattle.psg_terms.proofs.Lists.{slice_get_once}
use Rattle.psg_grammar.specs.declared.types.Kind.TheVariants as kinds
use Rattle.psg_grammar.specs.declared.types.Operator.{Operator}
use Rattle.psg_grammar.proofs.SoundParts.{operator_sound}
use Rattle.psg_eval.specs.Summaries.{Answers, Takes}
use Rattle.psg_eval.proofs.NodeSteps.{place_there}
use Rattle.psg_eval.proofs.evaluating.op_from.Goals as goal

pub node-requires-clause-operator : goal.node-requires-clause-operator
node-requires-clause-operator g c =
    let def = c.args.definition.now in
    let read = c.index-as_slice-op.result in
    let e = subst (λ (os : List Operator). read ≡ get_or os c.args.op read) c.as_slice.ensures c.index-as_slice-op.is in
    operator_sound def c.requires.sound c.args.op read (place_there def.operators c.args.op c.requires.takes.0 read c.requires.takes.1 e)

pub node-requires-clause-takes : goal.node-requires-clause-takes
node-requires-clause-takes g c =
    let def = c.args.definition.now in
    let read = c.index-as_slice-op.result in
    let e = subst (λ (os : List Operator). read ≡ get_or os c.args.op read) c.as_slice.ensures c.index-as_slice-op.is in
    let there = place_there def.operators c.args.op c.requires.takes.0 read c.requires.takes.1 e in
    subst (λ (o : Operator). Takes def o c.args.names.now c.args.children.now) (slice_get_once def.operators c.args.op c.requires.takes.0 read c.requires.takes.1 there) c.requires.takes.2

pub returns-in_err-summary-clause-answer : goal.returns-in_err-summary-clause-answer
returns-in_err-summary-clause-answer g c = λ f node all.
    let def = c.args.definition.now in
    let read = c.index-as_slice-op.result in
    let e = subst (λ (os : List Operator). read ≡ get_or os c.args.op read) c.as_slice.ensures c.index-as_slice-op.is in
    let there = place_there def.operators c.args.op c.requires.takes.0 read c.requires.takes.1 e in
    let fault = c.in_err-summary.field-0.0 in
    let d : c.from_residual.result ≡ Err fault = search rules in
    subst (Answers def f) (sym d) (c.in_err-summary.ensures.answer c.args.op f there node all)

pub returns-clause-answer : goal.returns-clause-answer
returns-clause-answer g c = λ f node all.
    let def = c.args.definition.now in
    let read = c.index-as_slice-op.result in
    let e = subst (λ (os : List Operator). read ≡ get_or os c.args.op read) c.as_slice.ensures c.index-as_slice-op.is in
    c.in_ok-summary.ensures.answer c.args.op f (place_there def.operators c.args.op c.requires.takes.0 read c.requires.takes.1 e) node all

pub returns-clause-kind : goal.returns-clause-kind
returns-clause-kind g c = λ o at.
    let def = c.args.definition.now in
    let read = c.index-as_slice-op.result in
    let e = subst (λ (os : List Operator). read ≡ get_or os c.args.op read) c.as_slice.ensures c.index-as_slice-op.is in
    let there = place_there def.operators c.args.op c.requires.takes.0 read c.requires.takes.1 e in
    c.in_ok-summary.ensures.kind ∙ ap (λ (x : Operator). kinds.Phylum x.phylum) (slice_get_once def.operators c.args.op read o there at)

pub node-requires-clause-start : goal.node-requires-clause-start
node-requires-clause-start g c =
    let def = c.args.definition.now in
    let read = c.index-as_slice-op.result in
    let e = subst (λ (os : List Operator). read ≡ get_or os c.args.op read) c.as_slice.ensures c.index-as_slice-op.is in
    c.operator-start.ensures def read c.requires.starts (place_there def.operators c.args.op c.requires.takes.0 read c.requires.takes.1 e)
