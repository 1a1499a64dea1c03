use Rattle.std.proofs.Common.{◌≤◌, take}
use Rattle.psg_menu.proofs.WordLaws.{AreBounded}
use Rattle.psg_grammar.specs.WellFormed.{operator_words}
use Rattle.psg_menu.proofs.words.longest_in_operators.Given as goal

abbrev pub invariant-loop-operator : goal.invariant-loop-operator
invariant-loop-operator l = record { least : l.least ≤ l.longest; so_far : AreBounded l.longest (operator_words (take l.operator-index l.operators)) }
