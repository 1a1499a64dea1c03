use Rattle.std.proofs.Common.{◌≡◌, map, take}
use Rattle.psg_recover.specs.Grammars.{quiet_operator}
use Rattle.psg_recover.proofs.grammar.quiet_operators.Given as goal

abbrev pub invariant-loop-operator : goal.invariant-loop-operator
invariant-loop-operator l = l.made.items ≡ map quiet_operator (take l.operator-index l.operators)
