use Rattle.std.proofs.Common.{◌≡◌, ◌++◌, take}
use Rattle.psg_specimen.specs.Its.{its_of_elements, its_of_parts}
use Rattle.psg_specimen.proofs.its.+its.Given as goal

abbrev pub invariant-add_its-loop-part : goal.invariant-add_its-loop-part
invariant-add_its-loop-part l = (l.place ≡ l.part-index) × (l.its.items ≡ l.fn.its.items ++ its_of_parts l.fn.definition l.region l.spots.items 0 (take l.part-index l.part-items))

abbrev pub invariant-add_its-loop-element : goal.invariant-add_its-loop-element
invariant-add_its-loop-element l = l.its.items ≡ l.fn.its.items ++ its_of_elements l.fn.definition l.fn.inside (take l.element-index l.element-items)
