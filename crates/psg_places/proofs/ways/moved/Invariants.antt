use Rattle.std.proofs.Common.{◌≡◌, ◌++◌, [], length}
use Rattle.psg_places.specs.Ways.{moved}
use Rattle.psg_places.proofs.ways.moved.Given as goal

abbrev pub decreases-steps : goal.decreases-steps
decreases-steps l = length l.left

abbrev pub invariant-steps : goal.invariant-steps
invariant-steps l = l.steps.items ++ moved l.opened l.at.items l.left ≡ moved l.opened [] l.path
