use Rattle.std.proofs.Common.{take}
use Rattle.psg_grammar.specs.WellFormed.{words_in}
use Rattle.psg_class.specs.Numbers.{Grown, HasWords}
use Rattle.psg_class.proofs.vocabulary.Vocabulary.add_items.Given as goal

abbrev pub invariant-loop-item : goal.invariant-loop-item
invariant-loop-item l = record { grown : Grown l.initial.self l.self; words : HasWords l.self (words_in (take l.item-index l.items)) }
