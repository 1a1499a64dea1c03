use Rattle.std.proofs.Common.{◌≡◌, ◌++◌, take}
use Rattle.psg_specimen.specs.Parts.{element_places, part_places}
use Rattle.psg_specimen.proofs.holes.+places.Given as goal

abbrev pub invariant-add_places-loop-part : goal.invariant-add_places-loop-part
invariant-add_places-loop-part l = l.places.items ≡ l.fn.places.items ++ part_places (take l.part-index l.part-items)

abbrev pub invariant-add_places-loop-element : goal.invariant-add_places-loop-element
invariant-add_places-loop-element l = l.places.items ≡ l.fn.places.items ++ element_places (take l.element-index l.element-items)
