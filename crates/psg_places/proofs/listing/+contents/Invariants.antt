use Rattle.std.proofs.Common.{◌+◌, ◌*◌, take, false}
use Rattle.psg_grammar.specs.Fragments.{operator}
use Rattle.psg_tree.specs.Shapes.{with_part, with_parts, list_of, height}
use Rattle.psg_places.proofs.ListingLaws.{ContentTo, ElementsTo}
use Rattle.psg_places.proofs.listing.+contents.Given as goal

abbrev pub decreases-pass_part : goal.decreases-pass_part
decreases-pass_part l = 9 * height (with_part (operator 0) l.part.now)

abbrev pub decreases-pass_parts : goal.decreases-pass_parts
decreases-pass_parts l = 9 * height (with_parts (operator 0) l.parts.now) + 1

abbrev pub decreases-pass_elements : goal.decreases-pass_elements
decreases-pass_elements l = 9 * height (list_of 0 l.elements.now false) + 1

abbrev pub decreases-pass_contents : goal.decreases-pass_contents
decreases-pass_contents l = 9 * height l.tree.now + 3

abbrev pub decreases-pass_both : goal.decreases-pass_both
decreases-pass_both l = 9 * height l.tree.now + 4

abbrev pub decreases-pass_node : goal.decreases-pass_node
decreases-pass_node l = 9 * height l.tree.now + 5

abbrev pub decreases-pass_child : goal.decreases-pass_child
decreases-pass_child l = 9 * height l.tree.now + 6

abbrev pub decreases-pass_free_element : goal.decreases-pass_free_element
decreases-pass_free_element l = 9 * height l.tree.now + 7

abbrev pub decreases-pass_element : goal.decreases-pass_element
decreases-pass_element l = 9 * height l.tree.now + 8

abbrev pub invariant-pass_parts-loop-i : goal.invariant-pass_parts-loop-i
invariant-pass_parts-loop-i l =
    ContentTo l.keeping.definition.now l.keeping.keep.now l.path l.op (take l.i l.parts) l.names l.children l.fn.listing
    l.listing

abbrev pub invariant-pass_elements-loop-i : goal.invariant-pass_elements-loop-i
invariant-pass_elements-loop-i l =
    ElementsTo l.keeping.definition.now l.keeping.keep.now l.path l.free (take l.i l.elements) l.fn.listing l.listing
