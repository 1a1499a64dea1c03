use Rattle.std.proofs.Common.{◌≡◌, drop}
use Rattle.psg_terms.specs.Names.{is_among}
use Rattle.psg_grammar.specs.WellFormed.{operator_words}
use Rattle.psg_tree.proofs.words.is_operator_word.Given as goal

abbrev pub invariant-loop-operator : goal.invariant-loop-operator
invariant-loop-operator l = is_among (operator_words (drop l.operator-index l.operators)) l.text ≡ is_among (operator_words l.operators) l.text
