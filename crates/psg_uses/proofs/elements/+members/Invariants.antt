use Rattle.std.proofs.Common.{◌≡◌, ◌+◌, ◌*◌, ◌++◌, false, take}
use Rattle.psg_grammar.specs.Fragments.{operator}
use Rattle.psg_tree.specs.Shapes.{with_part, with_parts, list_of, height}
use Rattle.psg_uses.specs.Members.{all_members}
use Rattle.psg_uses.proofs.MemberLaws.{PartsTo}
use Rattle.psg_uses.proofs.elements.+members.Given as goal

abbrev pub decreases-add_member : goal.decreases-add_member
decreases-add_member l = 8 * height l.element.now + 8

abbrev pub decreases-add_elements : goal.decreases-add_elements
decreases-add_elements l = 8 * height (list_of 0 l.elements.now false) + 1

abbrev pub decreases-add_child : goal.decreases-add_child
decreases-add_child l = 8 * height l.tree.now + 2

abbrev pub decreases-add_part : goal.decreases-add_part
decreases-add_part l = 8 * height (with_part (operator 0) l.part.now)

abbrev pub decreases-add_parts : goal.decreases-add_parts
decreases-add_parts l = 8 * height (with_parts (operator 0) l.parts.now) + 1

abbrev pub decreases-add_members : goal.decreases-add_members
decreases-add_members l = 8 * height l.tree.now + 2

abbrev pub invariant-add_parts-loop-place : goal.invariant-add_parts-loop-place
invariant-add_parts-loop-place l =
    PartsTo l.known.definition.now l.path (take l.place l.parts) l.children l.fn.found.items l.found.items

abbrev pub invariant-add_elements-loop-number : goal.invariant-add_elements-loop-number
invariant-add_elements-loop-number l =
    l.found.items ≡ l.fn.found.items ++ all_members l.known.definition.now l.list 0 (take l.number l.elements)
