use Rattle.std.proofs.Common.{◌≡◌, take}
use Rattle.psg_defcheck.specs.Meanings as meanings
use Rattle.psg_defcheck.specs.Sorting.{part_places_told}
use Rattle.psg_defcheck.proofs.places.part_places.Given as goal

abbrev pub invariant-loop-item : goal.invariant-loop-item
invariant-loop-item l = part_places_told l.places.items ≡ meanings.part_places l.scope (take l.item-index l.items)
