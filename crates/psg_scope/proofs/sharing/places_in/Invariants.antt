use Rattle.std.proofs.Common.{take}
use Rattle.psg_scope.specs.Sharing.{IsInside}
use Rattle.psg_scope.proofs.sharing.places_in.Given as goal

abbrev pub invariant-loop-i : goal.invariant-loop-i
invariant-loop-i l = IsInside l.long (take l.i l.short) l.places.items
