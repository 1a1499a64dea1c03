use Rattle.std.proofs.Common.{◌≡◌, length}
use Rattle.psg_links.specs.Renaming.{are_linked_alike}
use Rattle.psg_links.proofs.renaming.are_linked_alike.Given as goal

abbrev pub invariant-loop-first : goal.invariant-loop-first
invariant-loop-first l = are_linked_alike l.before l.after ≡ are_linked_alike l.rest l.others

abbrev pub decreases-loop-first : goal.decreases-loop-first
decreases-loop-first l = length l.rest
