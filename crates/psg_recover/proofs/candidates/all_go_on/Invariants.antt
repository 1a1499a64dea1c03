use Rattle.std.proofs.Common.{◌≡◌, drop}
use Rattle.psg_recover.specs.Recovery.{all_go_on}
use Rattle.psg_recover.proofs.candidates.all_go_on.Given as goal

abbrev pub invariant-loop-list : goal.invariant-loop-list
invariant-loop-list l = all_go_on l.phylum (drop l.list-index l.lists) ≡ all_go_on l.phylum l.lists
