use Rattle.std.proofs.Common.{◌≤◌, take}
use Rattle.psg_menu.proofs.WordLaws.{AreBounded}
use Rattle.psg_grammar.specs.WellFormed.{separators}
use Rattle.psg_menu.proofs.words.longest_separator.Given as goal

abbrev pub invariant-loop-list : goal.invariant-loop-list
invariant-loop-list l = record { least : l.least ≤ l.longest; so_far : AreBounded l.longest (separators (take l.list-index l.lists)) }
