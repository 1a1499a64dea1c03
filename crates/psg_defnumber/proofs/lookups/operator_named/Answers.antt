use Rattle.std.proofs.Common.{ap, ◌∙◌, Some, is_some, get_or, map}
use Rattle.psg_grammar.specs.declared.types.Operator.{Operator}
use Rattle.psg_defcheck.specs.Scopes.{operator_declared, operator_names}
use Rattle.psg_defnumber.proofs.NamedLaws.{named-below, operator-is}
use Rattle.psg_defnumber.proofs.lookups.operator_named.Goals as goal

pub operator-number-requires : goal.operator-number-requires
operator-number-requires c = ap (λ n. is_some (operator_declared c.args.checked.now n)) c.as_str.ensures ∙ c.requires.there

pub bounds-operators-number : goal.bounds-operators-number
bounds-operators-number c =
    named-below (λ (o : Operator). o.name) c.as_slice-operators.result.now (operator_names c.args.checked.now) c.operator-number.result c.args.name.now
    (ap (λ l. map (λ (o : Operator). o.name) l) c.as_slice-operators.ensures ∙ c.requires.names.operators) (c.operator-number.ensures ∙ ap Some c.as_str.ensures)

pub returns : goal.returns
returns c =
    operator-is c.args.checked.now c.operator-number.result c.args.name.now c.args.definition.now c.index-operators-number.result (c.operator-number.ensures ∙ ap Some c.as_str.ensures) c.requires.names
    (c.index-operators-number.is ∙ ap (λ l. get_or l c.operator-number.result c.index-operators-number.result) c.as_slice-operators.ensures)
