use Rattle.std.proofs.Common.{◌≡◌, ◌+◌, ◌*◌, take, drop, false}
use Rattle.psg_grammar.specs.Fragments.{operator}
use Rattle.psg_tree.specs.Shapes.{with_part, with_parts, list_of, height}
use Rattle.psg_places.specs.Openings.{elements_declared}
use Rattle.psg_places.proofs.OpeningLaws.{Counted}
use Rattle.psg_places.proofs.counting.+declared.Given as goal

abbrev pub decreases-declared_part : goal.decreases-declared_part
decreases-declared_part l = 4 * height (with_part (operator 0) l.part.now)

abbrev pub decreases-declared_parts : goal.decreases-declared_parts
decreases-declared_parts l = 4 * height (with_parts (operator 0) l.parts.now) + 1

abbrev pub decreases-declared_elements : goal.decreases-declared_elements
decreases-declared_elements l = 4 * height (list_of 0 l.elements.now false) + 1

abbrev pub decreases-declared_element : goal.decreases-declared_element
decreases-declared_element l = 4 * height l.element.now + 3

abbrev pub decreases-declared : goal.decreases-declared
decreases-declared l = 4 * height l.tree.now + 2

abbrev pub invariant-declared_parts-loop-i : goal.invariant-declared_parts-loop-i
invariant-declared_parts-loop-i l = Counted l.keeping.definition.now l.op (take l.i l.parts) l.total

abbrev pub invariant-declared_elements-loop-i : goal.invariant-declared_elements-loop-i
invariant-declared_elements-loop-i l =
    l.total + elements_declared l.keeping.definition.now (drop l.i l.elements)
    ≡ elements_declared l.keeping.definition.now l.elements
