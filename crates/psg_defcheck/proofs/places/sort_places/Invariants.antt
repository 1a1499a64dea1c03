use Rattle.std.proofs.Common.{◌≡◌, map, take}
use Rattle.psg_defcheck.specs.Scopes.{sort_place}
use Rattle.psg_defcheck.specs.Sorting.{places_told}
use Rattle.psg_defcheck.proofs.places.sort_places.Given as goal

abbrev pub invariant-loop-sort : goal.invariant-loop-sort
invariant-loop-sort l = places_told l.places.items ≡ map (sort_place l.scope) (take l.sort-index l.sorts)
