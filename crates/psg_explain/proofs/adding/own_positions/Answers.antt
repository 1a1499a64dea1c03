use Rattle.std.proofs.Common.{slice_get, sym, ap, ap₂, ◌∙◌}
use Rattle.std.proofs.lemmas.Option.{same_Some}
use Rattle.psg_terms.proofs.Lists.{got_some}
use Rattle.psg_grammar.specs.declared.types.Operator.{Operator}
use Rattle.psg_eval.specs.OwnRows.{positions}
use Rattle.psg_explain.specs.Splits.{names_among}
use Rattle.psg_explain.proofs.adding.own_positions.Goals as goal

pub returns-in_ok-own-in-Some : goal.returns-in_ok-own-in-Some
returns-in_ok-own-in-Some c = λ o at.
    let def = c.args.definition.now in
    let there = ap (λ xs. slice_get xs c.args.op) (sym c.as_slice.ensures) ∙ got_some c.as_slice.result.now c.args.op c.get.result c.in-Some.operator c.get.ensures.lookup c.in-Some.is in
    let same = same_Some c.in-Some.operator.now o (sym there ∙ at) in
    c.in_ok-own-in-Some.ensures ∙ ap₂ positions c.as_slice-in-Some.ensures (c.as_slice-in-Some-2.ensures.value ∙ c.in_ok-names-in-Some.ensures)
    ∙ ap (λ (x : Operator). positions x.items (names_among c.args.parts.now)) same
