use Rattle.std.proofs.Common.{◌≡◌, length}
use Rattle.psg_links.specs.Around.{first_in}
use Rattle.psg_links.proofs.around.first_in.Given as goal

abbrev pub invariant-loop-last : goal.invariant-loop-last
invariant-loop-last l = first_in l.name l.regions ≡ first_in l.name l.rest

abbrev pub decreases-loop-last : goal.decreases-loop-last
decreases-loop-last l = length l.rest
