use Rattle.std.proofs.Common.{◌≡◌, replicate}
use Rattle.psg_menu.proofs.sharing.first_level.Given as goal

abbrev pub invariant-loop : goal.invariant-loop
invariant-loop l = l.places.items ≡ replicate l.counter 0
