use Rattle.std.proofs.Common.{take}
use Rattle.psg_grammar.specs.WellFormed.{operator_words}
use Rattle.psg_class.specs.Numbers.{Grown, HasWords}
use Rattle.psg_class.proofs.vocabulary.Vocabulary.add_operators.Given as goal

abbrev pub invariant-loop-operator : goal.invariant-loop-operator
invariant-loop-operator l = record { grown : Grown l.initial.self l.self; words : HasWords l.self (operator_words (take l.operator-index l.operators)) }
