use Rattle.std.proofs.Common.{take}
use Rattle.psg_grammar.specs.WellFormed.{separators}
use Rattle.psg_class.specs.Numbers.{Grown, HasWords}
use Rattle.psg_class.proofs.vocabulary.Vocabulary.add_separators.Given as goal

abbrev pub invariant-loop-list : goal.invariant-loop-list
invariant-loop-list l = record { grown : Grown l.initial.self l.self; words : HasWords l.self (separators (take l.list-index l.lists)) }
