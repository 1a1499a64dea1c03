use Rattle.std.proofs.Common.{◌≡◌, ◌+◌, ◌*◌, ◌++◌, drop, false}
use Rattle.psg_grammar.specs.Fragments.{operator}
use Rattle.psg_tree.specs.Shapes.{with_part, with_parts, list_of, height}
use Rattle.psg_places.proofs.Gathered.{element_names, part_names}
use Rattle.psg_asking.proofs.named.+gather.Given as goal

abbrev pub decreases-gather_part : goal.decreases-gather_part
decreases-gather_part l = 3 * height (with_part (operator 0) l.part.now)

abbrev pub decreases-gather_parts : goal.decreases-gather_parts
decreases-gather_parts l = 3 * height (with_parts (operator 0) l.parts.now) + 1

abbrev pub decreases-gather_elements : goal.decreases-gather_elements
decreases-gather_elements l = 3 * height (list_of 0 l.elements.now false) + 1

abbrev pub decreases-gather : goal.decreases-gather
decreases-gather l = 3 * height l.tree.now + 2

abbrev pub invariant-gather_parts-loop-part : goal.invariant-gather_parts-loop-part
invariant-gather_parts-loop-part l =
    l.found.items ++ part_names (drop l.part-index l.parts) ≡ l.fn.found.items ++ part_names l.parts

abbrev pub invariant-gather_elements-loop-element : goal.invariant-gather_elements-loop-element
invariant-gather_elements-loop-element l =
    l.found.items ++ element_names (drop l.element-index l.elements) ≡ l.fn.found.items ++ element_names l.elements
