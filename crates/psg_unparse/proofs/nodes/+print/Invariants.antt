use Rattle.std.proofs.Common.{◌+◌, ◌*◌, false, length, take}
use Rattle.psg_grammar.specs.Fragments.{operator}
use Rattle.psg_tree.specs.Shapes.{height, with_part, with_parts, list_of}
use Rattle.psg_unparse.proofs.Printing.{AreParts, AreElementsLeft}
use Rattle.psg_unparse.proofs.nodes.+print.Given as goal

abbrev pub decreases-write_child : goal.decreases-write_child
decreases-write_child l = 6 * height l.tree.now + 5

abbrev pub decreases-write_node : goal.decreases-write_node
decreases-write_node l = 6 * height l.tree.now + 4

abbrev pub decreases-write_shape : goal.decreases-write_shape
decreases-write_shape l = 6 * height l.tree.now + 3

abbrev pub decreases-write_operator : goal.decreases-write_operator
decreases-write_operator l = 6 * height (with_parts (operator 0) l.parts.now) + 2

abbrev pub decreases-write_list : goal.decreases-write_list
decreases-write_list l = 6 * height (list_of 0 l.elements.now false) + 2

abbrev pub decreases-write_part : goal.decreases-write_part
decreases-write_part l = 6 * height (with_part (operator 0) l.part.now) + 1

abbrev pub invariant-write_operator-loop-part : goal.invariant-write_operator-loop-part
invariant-write_operator-loop-part l = AreParts l.definition l.op (take l.part-index l.parts) l.items l.rest l.number l.fn.printer l.printer

abbrev pub invariant-write_list-loop-element : goal.invariant-write_list-loop-element
invariant-write_list-loop-element l = AreElementsLeft l.definition l.list l.elements l.rest l.unfinished l.number l.fn.printer l.printer

abbrev pub decreases-write_list-loop-element : goal.decreases-write_list-loop-element
decreases-write_list-loop-element l = length l.rest
