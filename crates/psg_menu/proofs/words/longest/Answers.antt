use Rattle.std.proofs.Common.{List, arith, subst}
use Rattle.psg_grammar.specs.declared.types.Operator.{Operator}
use Rattle.psg_grammar.specs.declared.types.ListKind.{ListKind}
use Rattle.psg_grammar.specs.WellFormed.{operator_words, separators}
use Rattle.psg_menu.proofs.WordLaws.{AreBounded, bounded_both, bounded_up}
use Rattle.psg_menu.proofs.words.longest.Goals as goal

pub returns-clause-used : goal.returns-clause-used
returns-clause-used c =
    bounded_up c.longest_name-names.result c.longest_separator-whole.result c.args.used.now (omega (arith, c.longest_in_operators-words.ensures.least, c.longest_separator-whole.ensures.least))
    c.longest_name-names.ensures.names

pub returns-clause-fixed : goal.returns-clause-fixed
returns-clause-fixed c =
    let m = c.longest_separator-whole.result in
    let def = c.args.definition.now in
    bounded_both m (operator_words def.operators) (separators def.lists)
    (subst (λ (os : List Operator). AreBounded m (operator_words os)) c.as_slice-operators.ensures
    (bounded_up c.longest_in_operators-words.result m (operator_words c.as_slice-operators.result.now) c.longest_separator-whole.ensures.least c.longest_in_operators-words.ensures.words))
    (subst (λ (ls : List ListKind). AreBounded m (separators ls)) c.as_slice-lists.ensures c.longest_separator-whole.ensures.words)
