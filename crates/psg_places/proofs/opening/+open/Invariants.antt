use Rattle.std.proofs.Common.{◌+◌, ◌*◌, take, drop, false}
use Rattle.psg_grammar.specs.Fragments.{operator}
use Rattle.psg_tree.specs.Shapes.{with_part, with_parts, list_of, height}
use Rattle.psg_places.specs.Openings.{OpenTo}
use Rattle.psg_places.proofs.OpeningLaws.{PartsTo}
use Rattle.psg_places.proofs.opening.+open.Given as goal

abbrev pub decreases-open_part : goal.decreases-open_part
decreases-open_part l = 10 * height (with_part (operator 0) l.part.now)

abbrev pub decreases-open_parts : goal.decreases-open_parts
decreases-open_parts l = 10 * height (with_parts (operator 0) l.parts.now) + 1

abbrev pub decreases-open_elements : goal.decreases-open_elements
decreases-open_elements l = 10 * height (list_of 0 l.elements.now false) + 1

abbrev pub decreases-open_list : goal.decreases-open_list
decreases-open_list l = 10 * height (list_of 0 l.elements.now false) + 2

abbrev pub decreases-open_contents : goal.decreases-open_contents
decreases-open_contents l = 10 * height l.tree.now + 3

abbrev pub decreases-open_both : goal.decreases-open_both
decreases-open_both l = 10 * height l.tree.now + 4

abbrev pub decreases-open_node : goal.decreases-open_node
decreases-open_node l = 10 * height l.tree.now + 5

abbrev pub decreases-open_child : goal.decreases-open_child
decreases-open_child l = 10 * height l.tree.now + 6

abbrev pub decreases-open_free_element : goal.decreases-open_free_element
decreases-open_free_element l = 10 * height l.tree.now + 7

abbrev pub decreases-open_element : goal.decreases-open_element
decreases-open_element l = 10 * height l.tree.now + 8

abbrev pub decreases-open_member : goal.decreases-open_member
decreases-open_member l = 10 * height l.tree.now + 9

abbrev pub invariant-open_parts-loop-i : goal.invariant-open_parts-loop-i
invariant-open_parts-loop-i l =
    PartsTo l.keeping l.op l.above l.place (take l.i l.parts) l.made.items l.declared l.others

abbrev pub invariant-open_elements-loop-i : goal.invariant-open_elements-loop-i
invariant-open_elements-loop-i l =
    OpenTo l.keeping l.free l.above l.place l.elements l.made.items l.declared l.others (drop l.i l.elements)
