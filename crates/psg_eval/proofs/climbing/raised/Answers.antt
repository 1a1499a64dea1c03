use Rattle.std.proofs.Common.{rules, ◌≡◌, ◌+◌, ◌∙◌, sym, subst, arith}
use Rattle.std.specs.Prelude.{Ok, Err}
use Rattle.psg_grammar.specs.Steps.{steps_at}
use Rattle.psg_eval.specs.Climbing.{IsReached}
use Rattle.psg_eval.proofs.FrameLaws.{list_reached, list_rungs, list_takes, operator_frame, operator_rungs, operator_takes}
use Rattle.psg_eval.proofs.climbing.raised.Goals as goal

pub operator_raised-requires-clause-hot : goal.operator_raised-requires-clause-hot
operator_raised-requires-clause-hot g c =
    (operator_takes c.args.definition.now c.args.frame.now c.in-Op.op c.in-Op.hot c.in-Op.names c.as_slice-words.result.now c.in-Op.children c.as_slice-below.result.now
    c.in-Op.is c.as_slice-words.ensures c.as_slice-below.ensures c.args.own.now c.requires.takes.0 c.requires.takes.1).0

pub operator_raised-requires-clause-silent : goal.operator_raised-requires-clause-silent
operator_raised-requires-clause-silent g c =
    (operator_takes c.args.definition.now c.args.frame.now c.in-Op.op c.in-Op.hot c.in-Op.names c.as_slice-words.result.now c.in-Op.children c.as_slice-below.result.now
    c.in-Op.is c.as_slice-words.ensures c.as_slice-below.ensures c.args.own.now c.requires.takes.0 c.requires.takes.1).1

pub operator_raised-requires-clause-takes : goal.operator_raised-requires-clause-takes
operator_raised-requires-clause-takes g c =
    (operator_takes c.args.definition.now c.args.frame.now c.in-Op.op c.in-Op.hot c.in-Op.names c.as_slice-words.result.now c.in-Op.children c.as_slice-below.result.now
    c.in-Op.is c.as_slice-words.ensures c.as_slice-below.ensures c.args.own.now c.requires.takes.0 c.requires.takes.1).2

pub returns-in_err-node-in-Op-clause-answer : goal.returns-in_err-node-in-Op-clause-answer
returns-in_err-node-in-Op-clause-answer g c = λ u t path k at of.
    let def = c.args.definition.now in
    let fault = c.in_err-node-in-Op.field-0.0 in
    let d : c.from_residual.result ≡ Err fault = search rules in
    let (node, same, child, but) = operator_frame def c.args.frame.now c.in-Op.op c.in-Op.hot c.in-Op.names c.as_slice-words.result.now c.in-Op.children c.as_slice-below.result.now
    c.in-Op.is c.as_slice-words.ensures c.as_slice-below.ensures k u t at in
    subst (IsReached def (steps_at def path k u) u) (sym d) (c.in_err-node-in-Op.ensures.answer u t path k node same child but of)

pub returns-in_ok-node-in-Op-clause-answer : goal.returns-in_ok-node-in-Op-clause-answer
returns-in_ok-node-in-Op-clause-answer g c = λ u t path k at of.
    let (node, same, child, but) = operator_frame c.args.definition.now c.args.frame.now c.in-Op.op c.in-Op.hot c.in-Op.names c.as_slice-words.result.now c.in-Op.children c.as_slice-below.result.now
    c.in-Op.is c.as_slice-words.ensures c.as_slice-below.ensures k u t at in
    c.in_ok-node-in-Op.ensures.answer u t path k node same child but of

pub returns-in_ok-node-in-Op-clause-kind : goal.returns-in_ok-node-in-Op-clause-kind
returns-in_ok-node-in-Op-clause-kind g c = λ above takes.
    let (hot, silent, all, o, found, up) = operator_takes c.args.definition.now c.args.frame.now c.in-Op.op c.in-Op.hot c.in-Op.names c.as_slice-words.result.now c.in-Op.children c.as_slice-below.result.now
    c.in-Op.is c.as_slice-words.ensures c.as_slice-below.ensures c.args.own.now above takes in
    c.in_ok-node-in-Op.ensures.kind o found ∙ sym up

pub returns-in_ok-node-in-Op-clause-ticks : goal.returns-in_ok-node-in-Op-clause-ticks
returns-in_ok-node-in-Op-clause-ticks g c =
    let once = operator_rungs c.args.definition.now c.args.frame.now c.in-Op.op c.in-Op.hot c.in-Op.names c.as_slice-words.result.now c.in-Op.children c.as_slice-below.result.now
    c.in-Op.is c.as_slice-words.ensures c.as_slice-below.ensures in
    omega (arith, once, c.in_ok-node-in-Op.ensures.ticks)

pub returns-in_ok-node-in-Op-clause-most : goal.returns-in_ok-node-in-Op-clause-most
returns-in_ok-node-in-Op-clause-most g c =
    let once = operator_rungs c.args.definition.now c.args.frame.now c.in-Op.op c.in-Op.hot c.in-Op.names c.as_slice-words.result.now c.in-Op.children c.as_slice-below.result.now
    c.in-Op.is c.as_slice-words.ensures c.as_slice-below.ensures in
    omega (arith, once, c.operator_raised.ensures.most)

pub returns-in_err-node-in-Op-clause-most : goal.returns-in_err-node-in-Op-clause-most
returns-in_err-node-in-Op-clause-most g c =
    let once = operator_rungs c.args.definition.now c.args.frame.now c.in-Op.op c.in-Op.hot c.in-Op.names c.as_slice-words.result.now c.in-Op.children c.as_slice-below.result.now
    c.in-Op.is c.as_slice-words.ensures c.as_slice-below.ensures in
    omega (arith, once, c.operator_raised.ensures.most)

pub raised_in_list-requires-clause-takes : goal.raised_in_list-requires-clause-takes
raised_in_list-requires-clause-takes g c =
    (list_takes c.args.definition.now c.args.frame.now c.in-Elem.list c.in-Elem.before c.as_slice-front.result.now c.in-Elem.rest c.in-Elem.is c.as_slice-front.ensures
    c.args.own.now c.requires.takes.0 c.requires.takes.1).0

pub raised_in_list-requires-clause-silent : goal.raised_in_list-requires-clause-silent
raised_in_list-requires-clause-silent g c =
    (list_takes c.args.definition.now c.args.frame.now c.in-Elem.list c.in-Elem.before c.as_slice-front.result.now c.in-Elem.rest c.in-Elem.is c.as_slice-front.ensures
    c.args.own.now c.requires.takes.0 c.requires.takes.1).1

pub raised_in_list-requires-clause-before : goal.raised_in_list-requires-clause-before
raised_in_list-requires-clause-before g c =
    (list_takes c.args.definition.now c.args.frame.now c.in-Elem.list c.in-Elem.before c.as_slice-front.result.now c.in-Elem.rest c.in-Elem.is c.as_slice-front.ensures
    c.args.own.now c.requires.takes.0 c.requires.takes.1).3

pub returns-in_err-whole-in-Elem-clause-answer : goal.returns-in_err-whole-in-Elem-clause-answer
returns-in_err-whole-in-Elem-clause-answer g c = λ u t path k at of.
    let def = c.args.definition.now in
    let fault = c.in_err-whole-in-Elem.field-0.0 in
    let d : c.from_residual-in_err-whole-in-Elem.result ≡ Err fault = search rules in
    subst (IsReached def (steps_at def path k u) u) (sym d)
    (list_reached def c.args.frame.now c.in-Elem.list c.in-Elem.before c.as_slice-front.result.now c.in-Elem.rest c.in-Elem.is c.as_slice-front.ensures
    c.args.own.now (Err fault) c.in_err-whole-in-Elem.ensures.answer u t path k at of)

pub returns-in_ok-whole-in-Elem-clause-answer : goal.returns-in_ok-whole-in-Elem-clause-answer
returns-in_ok-whole-in-Elem-clause-answer g c =
    list_reached c.args.definition.now c.args.frame.now c.in-Elem.list c.in-Elem.before c.as_slice-front.result.now c.in-Elem.rest c.in-Elem.is c.as_slice-front.ensures
    c.args.own.now (Ok c.in_ok-whole-in-Elem.whole) c.in_ok-whole-in-Elem.ensures.answer

pub returns-in_ok-whole-in-Elem-clause-kind : goal.returns-in_ok-whole-in-Elem-clause-kind
returns-in_ok-whole-in-Elem-clause-kind g c = λ above takes.
    c.in_ok-whole-in-Elem.ensures.kind
    ∙ sym (list_takes c.args.definition.now c.args.frame.now c.in-Elem.list c.in-Elem.before c.as_slice-front.result.now c.in-Elem.rest c.in-Elem.is c.as_slice-front.ensures
    c.args.own.now above takes).2

pub returns-in_ok-whole-in-Elem-clause-ticks : goal.returns-in_ok-whole-in-Elem-clause-ticks
returns-in_ok-whole-in-Elem-clause-ticks g c =
    let many = list_rungs c.args.definition.now c.args.frame.now c.in-Elem.list c.in-Elem.before c.as_slice-front.result.now c.in-Elem.rest c.in-Elem.is c.as_slice-front.ensures in
    omega (arith, many, c.in_ok-whole-in-Elem.ensures.ticks)

pub returns-in_ok-whole-in-Elem-clause-most : goal.returns-in_ok-whole-in-Elem-clause-most
returns-in_ok-whole-in-Elem-clause-most g c =
    let many = list_rungs c.args.definition.now c.args.frame.now c.in-Elem.list c.in-Elem.before c.as_slice-front.result.now c.in-Elem.rest c.in-Elem.is c.as_slice-front.ensures in
    omega (arith, many, c.raised_in_list.ensures.most)

pub returns-in_err-whole-in-Elem-clause-most : goal.returns-in_err-whole-in-Elem-clause-most
returns-in_err-whole-in-Elem-clause-most g c =
    let many = list_rungs c.args.definition.now c.args.frame.now c.in-Elem.list c.in-Elem.before c.as_slice-front.result.now c.in-Elem.rest c.in-Elem.is c.as_slice-front.ensures in
    omega (arith, many, c.raised_in_list.ensures.most)
