use Rattle.std.proofs.Common.{◌≡◌, drop}
use Rattle.psg_modes.specs.Turning.{first_from}
use Rattle.psg_modes.proofs.leading.first_from.Given as goal

abbrev pub invariant-loop-place : goal.invariant-loop-place
invariant-loop-place l = first_from l.byte l.spans ≡ first_from l.byte (drop l.place l.spans)
