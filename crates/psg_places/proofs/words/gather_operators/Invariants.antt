use Rattle.std.proofs.Common.{◌≡◌, ◌++◌, drop}
use Rattle.psg_grammar.specs.WellFormed.{operator_words}
use Rattle.psg_places.proofs.words.gather_operators.Given as goal

abbrev pub invariant-loop-operator : goal.invariant-loop-operator
invariant-loop-operator l = l.found.items ++ operator_words (drop l.operator-index l.operators) ≡ l.initial.found.items ++ operator_words l.operators
