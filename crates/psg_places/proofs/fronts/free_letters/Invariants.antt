use Rattle.std.specs.Prelude.{string_bytes}
use Rattle.psg_places.proofs.FrontLaws.{IsSoFar}
use Rattle.psg_places.proofs.fronts.free_letters.Given as goal

abbrev pub invariant-letters : goal.invariant-letters
invariant-letters l = IsSoFar l.names (string_bytes l.letters) l.left

abbrev pub decreases-letters : goal.decreases-letters
decreases-letters l = l.left
