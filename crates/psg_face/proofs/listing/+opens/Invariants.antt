use Rattle.std.proofs.Common.{◌≡◌, ◌+◌, ◌*◌, ◌++◌, take, false}
use Rattle.psg_grammar.specs.Fragments.{operator}
use Rattle.psg_tree.specs.Shapes.{with_part, with_parts, list_of, height}
use Rattle.psg_face.specs.Opens.{elements_opens}
use Rattle.psg_face.proofs.OpenLaws.{PartsTo}
use Rattle.psg_face.proofs.listing.+opens.Given as goal

abbrev pub decreases-push_part : goal.decreases-push_part
decreases-push_part l = 3 * height (with_part (operator 0) l.part.now)

abbrev pub decreases-push_parts : goal.decreases-push_parts
decreases-push_parts l = 3 * height (with_parts (operator 0) l.parts.now) + 1

abbrev pub decreases-push_elements : goal.decreases-push_elements
decreases-push_elements l = 3 * height (list_of 0 l.elements.now false) + 1

abbrev pub decreases-push_opens : goal.decreases-push_opens
decreases-push_opens l = 3 * height l.tree.now + 2

abbrev pub invariant-push_parts-loop-i : goal.invariant-push_parts-loop-i
invariant-push_parts-loop-i l = PartsTo l.path l.op (take l.i l.parts) l.children l.fn.found.items l.found.items

abbrev pub invariant-push_elements-loop-i : goal.invariant-push_elements-loop-i
invariant-push_elements-loop-i l = l.found.items ≡ l.fn.found.items ++ elements_opens l.path 0 (take l.i l.elements)
