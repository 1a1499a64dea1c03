use Rattle.std.proofs.Common.{◌≡◌, ◌+◌, ◌*◌, ◌++◌, drop, false, map, take}
use Rattle.psg_grammar.specs.Fragments.{operator}
use Rattle.psg_tree.specs.Shapes.{with_part, with_parts, list_of, height}
use Rattle.psg_recover.specs.Lost.{left_elements, left_part}
use Rattle.psg_recover.proofs.lost.+lost.Given as goal

abbrev pub decreases-left_part : goal.decreases-left_part
decreases-left_part l = 4 * height (with_part (operator 0) l.part.now)

abbrev pub decreases-left_parts : goal.decreases-left_parts
decreases-left_parts l = 4 * height (with_parts (operator 0) l.parts.now) + 1

abbrev pub decreases-left_elements : goal.decreases-left_elements
decreases-left_elements l = 4 * height (list_of 0 l.elements.now false) + 1

abbrev pub decreases-left_out : goal.decreases-left_out
decreases-left_out l = 4 * height l.tree.now + 2

abbrev pub decreases-push_left : goal.decreases-push_left
decreases-push_left l = 4 * height l.element.now + 3

abbrev pub invariant-left_parts-loop-i : goal.invariant-left_parts-loop-i
invariant-left_parts-loop-i l = l.made.items ≡ map (left_part l.known.definition.now) (take l.i l.parts)

abbrev pub invariant-left_elements-loop-i : goal.invariant-left_elements-loop-i
invariant-left_elements-loop-i l =
    l.made.items ++ left_elements l.known.definition.now (drop l.i l.elements)
    ≡ left_elements l.known.definition.now l.elements
