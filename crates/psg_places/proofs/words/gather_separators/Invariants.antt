use Rattle.std.proofs.Common.{◌≡◌, ◌++◌, drop}
use Rattle.psg_grammar.specs.WellFormed.{separators}
use Rattle.psg_places.proofs.words.gather_separators.Given as goal

abbrev pub invariant-loop-list : goal.invariant-loop-list
invariant-loop-list l = l.found.items ++ separators (drop l.list-index l.lists) ≡ l.initial.found.items ++ separators l.lists
