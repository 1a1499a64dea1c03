use Rattle.std.proofs.Common.{◌+◌, ◌*◌, false, length}
use Rattle.psg_grammar.specs.Fragments.{operator}
use Rattle.psg_tree.specs.Shapes.{height, with_parts, list_of}
use Rattle.psg_class.specs.Texts.{tokens_of}
use Rattle.psg_ranges.proofs.Walks.{PartsSoFar}
use Rattle.psg_ranges.proofs.Elements.{ElementsSoFar}
use Rattle.psg_ranges.proofs.reading.+read.Given as goal

abbrev pub decreases-read_node : goal.decreases-read_node
decreases-read_node l = 10 * height l.tree.now + 8

abbrev pub decreases-read_shape : goal.decreases-read_shape
decreases-read_shape l = 10 * height l.tree.now + 7

abbrev pub decreases-read_below : goal.decreases-read_below
decreases-read_below l = 10 * height l.tree.now + 6

abbrev pub decreases-read_operator : goal.decreases-read_operator
decreases-read_operator l = 10 * height (with_parts (operator 0) l.parts.now) + 5

abbrev pub decreases-read_elements : goal.decreases-read_elements
decreases-read_elements l = 10 * height (list_of 0 l.elements.now false) + 5

abbrev pub decreases-read_parts : goal.decreases-read_parts
decreases-read_parts l = 10 * height (with_parts (operator 0) l.parts.now) + 4

abbrev pub decreases-read_item : goal.decreases-read_item
decreases-read_item l = 10 * height (with_parts (operator 0) l.parts.now) + 3

abbrev pub decreases-read_child : goal.decreases-read_child
decreases-read_child l = 10 * height (with_parts (operator 0) l.parts.now) + 2

abbrev pub invariant-read_parts-loop-item : goal.invariant-read_parts-loop-item
invariant-read_parts-loop-item l =
    PartsSoFar l.definition (tokens_of l.tokens) l.items l.parts l.rest l.item-index l.fn.reader l.reader l.fn.names.items l.names.items

abbrev pub invariant-read_elements-loop-element : goal.invariant-read_elements-loop-element
invariant-read_elements-loop-element l =
    ElementsSoFar l.definition (tokens_of l.tokens) l.list l.elements l.rest l.unfinished l.fn.reader l.reader

abbrev pub decreases-read_elements-loop-element : goal.decreases-read_elements-loop-element
decreases-read_elements-loop-element l = length l.rest
