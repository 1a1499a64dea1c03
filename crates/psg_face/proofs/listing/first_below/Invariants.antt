use Rattle.std.proofs.Common.{◌≡◌, drop}
use Rattle.psg_face.specs.Opens.{first_below}
use Rattle.psg_face.proofs.listing.first_below.Given as goal

abbrev pub invariant-loop-place : goal.invariant-loop-place
invariant-loop-place l = first_below l.path l.paths ≡ first_below l.path (drop l.place l.paths)
