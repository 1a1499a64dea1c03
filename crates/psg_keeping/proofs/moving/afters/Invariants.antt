use Rattle.std.proofs.Common.{take}
use Rattle.psg_keeping.proofs.MoveLaws.{IsAfter}
use Rattle.psg_keeping.proofs.moving.afters.Given as goal

abbrev pub invariant-loop-place : goal.invariant-loop-place
invariant-loop-place l = IsAfter (take l.place l.steps) l.places.items l.seen l.last
