use Rattle.std.proofs.Common.{◌≡◌, ◌++◌, length}
use Rattle.psg_links.specs.Renaming.{edited}
use Rattle.psg_links.proofs.renaming.edited.Given as goal

abbrev pub invariant-loop-spot : goal.invariant-loop-spot
invariant-loop-spot l =
    l.made.items ++ edited l.bytes l.new l.from l.rest ≡ edited l.bytes l.new 0 l.spots

abbrev pub decreases-loop-spot : goal.decreases-loop-spot
decreases-loop-spot l = length l.rest
