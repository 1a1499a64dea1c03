use Rattle.std.proofs.Common.{◌≤◌, take}
use Rattle.psg_menu.proofs.WordLaws.{AreBounded}
use Rattle.psg_grammar.specs.WellFormed.{words_in}
use Rattle.psg_menu.proofs.words.longest_word.Given as goal

abbrev pub invariant-loop-item : goal.invariant-loop-item
invariant-loop-item l = record { least : l.least ≤ l.longest; so_far : AreBounded l.longest (words_in (take l.item-index l.items)) }
