use Rattle.std.proofs.Common.{◌≡◌, drop}
use Rattle.psg_modes.specs.Wrong.{place_of}
use Rattle.psg_modes.proofs.wrong.place_of.Given as goal

abbrev pub invariant-loop-number : goal.invariant-loop-number
invariant-loop-number l = place_of l.places l.path ≡ place_of (drop l.number l.places) l.path
