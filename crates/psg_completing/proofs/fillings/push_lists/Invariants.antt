use Rattle.std.proofs.Common.{◌≡◌, ◌++◌, drop}
use Rattle.psg_completing.specs.Fillings.{lists_from}
use Rattle.psg_completing.proofs.fillings.push_lists.Given as goal

abbrev pub invariant-loop-number : goal.invariant-loop-number
invariant-loop-number l =
    l.found.items ++ lists_from l.phylum l.number (drop l.number l.lists)
    ≡ l.initial.found.items ++ lists_from l.phylum 0 l.lists
