use Rattle.std.proofs.Common.{◌≡◌, drop}
use Rattle.psg_modes.specs.Turning.{line_from}
use Rattle.psg_modes.proofs.leading.line_start.Given as goal

abbrev pub invariant-loop-place : goal.invariant-loop-place
invariant-loop-place l = line_from 0 0 l.line l.text ≡ line_from l.start l.place l.left (drop l.place l.text)
