use Rattle.std.proofs.Common.{◌≡◌, ◌+◌, ◌*◌, ◌++◌, false, take}
use Rattle.psg_grammar.specs.Fragments.{operator}
use Rattle.psg_tree.specs.Shapes.{with_part, with_parts, list_of, height}
use Rattle.psg_links.specs.Names.{element_names}
use Rattle.psg_links.proofs.NamesLaws.{PartsTo}
use Rattle.psg_links.proofs.names.+names.Given as goal

abbrev pub decreases-gather_part : goal.decreases-gather_part
decreases-gather_part l = 4 * height (with_part (operator 0) l.part.now)

abbrev pub decreases-gather_parts : goal.decreases-gather_parts
decreases-gather_parts l = 4 * height (with_parts (operator 0) l.parts.now) + 1

abbrev pub decreases-gather_elements : goal.decreases-gather_elements
decreases-gather_elements l = 4 * height (list_of 0 l.elements.now false) + 1

abbrev pub decreases-gather : goal.decreases-gather
decreases-gather l = 4 * height l.tree.now + 2

abbrev pub decreases-gather_child : goal.decreases-gather_child
decreases-gather_child l = 4 * height l.tree.now + 3

abbrev pub invariant-gather_parts-loop-place : goal.invariant-gather_parts-loop-place
invariant-gather_parts-loop-place l =
    PartsTo l.definition l.path l.op (take l.place l.parts) l.count l.children l.fn.found.items l.found.items

abbrev pub invariant-gather_elements-loop-place : goal.invariant-gather_elements-loop-place
invariant-gather_elements-loop-place l =
    l.found.items ≡ l.fn.found.items ++ element_names l.definition l.path 0 (take l.place l.elements)
