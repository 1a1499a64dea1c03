use Rattle.std.proofs.Common.{◌≤◌, take}
use Rattle.psg_menu.proofs.WordLaws.{AreBounded}
use Rattle.psg_menu.proofs.words.longest_name.Given as goal

abbrev pub invariant-loop-name : goal.invariant-loop-name
invariant-loop-name l = record { least : l.least ≤ l.longest; so_far : AreBounded l.longest (take l.name-index l.names) }
