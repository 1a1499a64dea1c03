use Rattle.std.proofs.Common.{◌≡◌, ◌+◌, ◌*◌, take, drop, false}
use Rattle.psg_grammar.specs.Fragments.{operator}
use Rattle.psg_tree.specs.Shapes.{with_part, with_parts, list_of, height}
use Rattle.psg_places.specs.Openings.{elements_size}
use Rattle.psg_places.proofs.OpeningLaws.{Contained}
use Rattle.psg_places.proofs.containing.+contained.Given as goal

abbrev pub decreases-part_contained : goal.decreases-part_contained
decreases-part_contained l = 8 * height (with_part (operator 0) l.part.now)

abbrev pub decreases-parts_contained : goal.decreases-parts_contained
decreases-parts_contained l = 8 * height (with_parts (operator 0) l.parts.now) + 1

abbrev pub decreases-elements_contained : goal.decreases-elements_contained
decreases-elements_contained l = 8 * height (list_of 0 l.elements.now false) + 1

abbrev pub decreases-list_contained : goal.decreases-list_contained
decreases-list_contained l = 8 * height (list_of 0 l.elements.now false) + 2

abbrev pub decreases-contained : goal.decreases-contained
decreases-contained l = 8 * height l.tree.now + 3

abbrev pub decreases-both_contained : goal.decreases-both_contained
decreases-both_contained l = 8 * height l.tree.now + 4

abbrev pub decreases-child_contained : goal.decreases-child_contained
decreases-child_contained l = 8 * height l.tree.now + 5

abbrev pub decreases-free_contained : goal.decreases-free_contained
decreases-free_contained l = 8 * height l.element.now + 6

abbrev pub decreases-element_contained : goal.decreases-element_contained
decreases-element_contained l = 8 * height l.element.now + 7

abbrev pub invariant-parts_contained-loop-i : goal.invariant-parts_contained-loop-i
invariant-parts_contained-loop-i l = Contained l.keeping.definition.now l.op (take l.i l.parts) l.total

abbrev pub invariant-elements_contained-loop-i : goal.invariant-elements_contained-loop-i
invariant-elements_contained-loop-i l =
    l.total + elements_size l.keeping.definition.now l.free (drop l.i l.elements)
    ≡ elements_size l.keeping.definition.now l.free l.elements
