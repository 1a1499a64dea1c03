use Rattle.std.proofs.Common.{slice_get, sym, ap, ap₂, ◌∙◌}
use Rattle.psg_terms.proofs.Lists.{got_none, got_some}
use Rattle.psg_scope.specs.Headers.{keys}
use Rattle.psg_eval.specs.OwnRows.{positions}
use Rattle.psg_explain.specs.Splits.{own_cases_of}
use Rattle.psg_explain.proofs.CasingLaws.{no_operator_cases, operator_cases_are}
use Rattle.psg_explain.proofs.casing.operator_cases.Goals as goal

pub returns-in_ok-cases-in-Some : goal.returns-in_ok-cases-in-Some
returns-in_ok-cases-in-Some c = λ has.
    let op = c.in-Some.operator.now in
    let ks = keys c.args.keys.now in
    let there = ap (λ xs. slice_get xs c.args.op) (sym c.as_slice.ensures) ∙ got_some c.as_slice.result.now c.args.op c.get.result c.in-Some.operator c.get.ensures.lookup c.in-Some.is in
    let at = c.in_ok-own-in-Some.ensures ∙ ap₂ positions c.as_slice-in-Some.ensures (c.as_slice-in-Some-2.ensures.value ∙ c.in_ok-names-in-Some.ensures) in
    c.in_ok-cases-in-Some.ensures ∙ ap (λ l. own_cases_of op.items l ks 0 op.rows) c.as_slice-in-Some-3.ensures.value
    ∙ operator_cases_are c.args.definition.now c.args.op c.args.parts.now op c.in_ok-own-in-Some.own.items ks there at has

pub returns-in-None : goal.returns-in-None
returns-in-None c = λ has.
    c.new.ensures.items
    ∙ no_operator_cases c.args.definition.now c.args.op c.args.parts.now (ap (λ xs. slice_get xs c.args.op) (sym c.as_slice.ensures) ∙ got_none c.as_slice.result.now c.args.op c.get.result c.get.ensures.lookup c.in-None.is)
