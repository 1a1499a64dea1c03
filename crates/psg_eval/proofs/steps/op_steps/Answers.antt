use Rattle.std.proofs.Common.{rules, Err, ◌≡◌, List, get_or, sym, subst}
use Rattle.psg_terms.proofs.Lists.{slice_get_once}
use Rattle.psg_grammar.specs.declared.types.Operator.{Operator}
use Rattle.psg_grammar.proofs.SoundParts.{operator_sound}
use Rattle.psg_eval.specs.StepRows.{MatchSteps}
use Rattle.psg_eval.specs.Summaries.{Takes}
use Rattle.psg_eval.proofs.NodeSteps.{place_there}
use Rattle.psg_eval.proofs.steps.op_steps.Goals as goal

pub operator_steps-requires-clause-operator : goal.operator_steps-requires-clause-operator
operator_steps-requires-clause-operator g c =
    let def = c.args.definition.now in
    let read = c.index-as_slice-op.result in
    let e = subst (λ (os : List Operator). read ≡ get_or os c.args.op read) c.as_slice.ensures c.index-as_slice-op.is in
    operator_sound def c.requires.sound c.args.op read (place_there def.operators c.args.op c.requires.takes.0 read c.requires.takes.1 e)

pub operator_steps-requires-clause-takes : goal.operator_steps-requires-clause-takes
operator_steps-requires-clause-takes g c =
    let def = c.args.definition.now in
    let read = c.index-as_slice-op.result in
    let e = subst (λ (os : List Operator). read ≡ get_or os c.args.op read) c.as_slice.ensures c.index-as_slice-op.is in
    let there = place_there def.operators c.args.op c.requires.takes.0 read c.requires.takes.1 e in
    subst (λ (o : Operator). Takes def o c.args.names.now c.args.children.now) (slice_get_once def.operators c.args.op c.requires.takes.0 read c.requires.takes.1 there) c.requires.takes.2

pub returns-in_err-all-clause-answer : goal.returns-in_err-all-clause-answer
returns-in_err-all-clause-answer g c = λ f node all.
    let def = c.args.definition.now in
    let read = c.index-as_slice-op.result in
    let e = subst (λ (os : List Operator). read ≡ get_or os c.args.op read) c.as_slice.ensures c.index-as_slice-op.is in
    let fault = c.in_err-all.field-0.0 in
    let d : c.from_residual.result ≡ Err fault = search rules in
    subst (MatchSteps def f) (sym d) (c.in_err-all.ensures c.args.op f (place_there def.operators c.args.op c.requires.takes.0 read c.requires.takes.1 e) node all)

pub returns-clause-answer : goal.returns-clause-answer
returns-clause-answer g c = λ f node all.
    let def = c.args.definition.now in
    let read = c.index-as_slice-op.result in
    let e = subst (λ (os : List Operator). read ≡ get_or os c.args.op read) c.as_slice.ensures c.index-as_slice-op.is in
    c.in_ok-all.ensures c.args.op f (place_there def.operators c.args.op c.requires.takes.0 read c.requires.takes.1 e) node all
