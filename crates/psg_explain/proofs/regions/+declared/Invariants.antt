use Rattle.std.proofs.Common.{◌≡◌, ◌≤◌, ◌+◌, ◌*◌, ◌++◌, drop, false}
use Rattle.psg_grammar.specs.Fragments.{operator}
use Rattle.psg_scope.specs.Headers.{keys}
use Rattle.psg_tree.specs.Shapes.{height, list_of, with_part, with_parts}
use Rattle.psg_explain.specs.DeclaredParts.{element_keys, parts_keys}
use Rattle.psg_explain.proofs.regions.+declared.Given as goal

abbrev pub decreases-add_child : goal.decreases-add_child
decreases-add_child l = 6 * height l.tree.now + 5

abbrev pub decreases-add_part : goal.decreases-add_part
decreases-add_part l = 6 * height (with_part (operator 0) l.part.now) + 1

abbrev pub decreases-add_parts : goal.decreases-add_parts
decreases-add_parts l = 6 * height (with_parts (operator 0) l.parts.now) + 3

abbrev pub decreases-add_elements : goal.decreases-add_elements
decreases-add_elements l = 6 * height (list_of 0 l.elements.now false) + 2

abbrev pub decreases-add_declared : goal.decreases-add_declared
decreases-add_declared l = 6 * height l.tree.now + 4

abbrev pub invariant-add_parts-loop-i : goal.invariant-add_parts-loop-i
invariant-add_parts-loop-i l =
    (l.next ≤ l.i)
    × (keys l.found.items ++ parts_keys l.definition l.positions l.next (drop l.i l.parts) ≡ keys l.fn.found.items ++ parts_keys l.definition l.positions 0 l.parts)

abbrev pub invariant-add_elements-loop-i : goal.invariant-add_elements-loop-i
invariant-add_elements-loop-i l = keys l.found.items ++ element_keys l.definition (drop l.i l.elements) ≡ keys l.fn.found.items ++ element_keys l.definition l.elements
