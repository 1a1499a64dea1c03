use Rattle.std.proofs.Common.{rules, ◌≡◌, ◌∙◌, List, ap, sym, subst}
use Rattle.std.specs.Prelude.{Ok, Err, sum_by}
use Rattle.psg_eval.specs.declared.summary.SummaryParts.{SummaryParts}
use Rattle.psg_grammar.specs.Steps.{steps_at}
use Rattle.psg_eval.specs.Climbing.{IsReached}
use Rattle.psg_eval.specs.Summaries.{AreSummariesOf, TakesAt}
use Rattle.psg_eval.proofs.FrameLaws.{node_reached, put_seen}
use Rattle.psg_eval.proofs.climbing.operator_raised.Goals as goal

pub op_from-requires-clause-takes : goal.op_from-requires-clause-takes
op_from-requires-clause-takes g c =
    subst (λ (cs : List SummaryParts). TakesAt c.args.definition.now c.args.op c.args.names.now cs) (sym (c.as_slice-below.ensures.value ∙ c.in_ok-all.ensures)) c.requires.takes

pub returns-in_err-node-clause-answer : goal.returns-in_err-node-clause-answer
returns-in_err-node-clause-answer g c = λ u t path k node same child but of.
    let def = c.args.definition.now in
    let fault = c.in_err-node.field-0.0 in
    let d : c.from_residual-in_err-node.result ≡ Err fault = search rules in
    subst (IsReached def (steps_at def path k u) u) (sym d)
    (node_reached def path c.args.op k c.args.hot c.args.names.now c.args.children.now c.args.own.now u t (Err fault)
    (λ f n all. c.in_err-node.ensures.answer f n (subst (AreSummariesOf def f) (sym (c.as_slice-below.ensures.value ∙ c.in_ok-all.ensures)) all)) node same child but of)

pub returns-clause-answer : goal.returns-clause-answer
returns-clause-answer g c = λ u t path k node same child but of.
    let def = c.args.definition.now in
    node_reached def path c.args.op k c.args.hot c.args.names.now c.args.children.now c.args.own.now u t (Ok c.in_ok-node.node)
    (λ f n all. c.in_ok-node.ensures.answer f n (subst (AreSummariesOf def f) (sym (c.as_slice-below.ensures.value ∙ c.in_ok-all.ensures)) all)) node same child but of

pub returns-clause-seen : goal.returns-clause-seen
returns-clause-seen g c =
    c.in_ok-node.ensures.seen ∙ ap (λ (cs : List SummaryParts). sum_by (λ (x : SummaryParts). x.seen) cs) (c.as_slice-below.ensures.value ∙ c.in_ok-all.ensures)
    ∙ put_seen c.args.hot c.args.own.now c.args.children.now c.requires.hot c.requires.silent
