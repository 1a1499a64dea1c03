use Rattle.std.proofs.Common.{◌≡◌, map, take}
use Rattle.psg_recover.specs.Grammars.{plain_list}
use Rattle.psg_recover.proofs.grammar.plain_lists.Given as goal

abbrev pub invariant-loop-list : goal.invariant-loop-list
invariant-loop-list l = l.made.items ≡ map plain_list (take l.list-index l.lists)
