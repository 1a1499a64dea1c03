use Rattle.std.proofs.Common.{take}
use Rattle.psg_scope.specs.Headers.{ArePlaces, keys}
use Rattle.psg_scope.proofs.sharing.own_places.Given as goal

abbrev pub invariant-loop-place : goal.invariant-loop-place
invariant-loop-place l = ArePlaces l.cols l.places.items (take l.place (keys l.cols))
