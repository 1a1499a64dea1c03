use Rattle.std.proofs.Common.{◌+◌, ◌*◌, false, length, take, ℕ}
use Rattle.psg_grammar.specs.Fragments.{operator}
use Rattle.psg_tree.specs.Shapes.{height, with_part, with_parts, list_of}
use Rattle.psg_layout.proofs.WayLaws.{AreParts, AreElementsLeft}
use Rattle.psg_layout.proofs.walk.+arrange.Given as goal

abbrev pub decreases-write_child : goal.decreases-write_child
decreases-write_child l = 7 * height l.tree.now + 6

abbrev pub decreases-write_node : goal.decreases-write_node
decreases-write_node l = 7 * height l.tree.now + 5

abbrev pub decreases-write_met : goal.decreases-write_met
decreases-write_met l = 7 * height l.tree.now + 4

abbrev pub decreases-write_shape : goal.decreases-write_shape
decreases-write_shape l = 7 * height l.tree.now + 3

abbrev pub decreases-write_operator : goal.decreases-write_operator
decreases-write_operator l = 7 * height (with_parts (operator 0) l.parts.now) + 2

abbrev pub decreases-write_list : goal.decreases-write_list
decreases-write_list l = 7 * height (list_of 0 l.elements.now false) + 2

abbrev pub decreases-write_part : goal.decreases-write_part
decreases-write_part l = 7 * height (with_part (operator 0) l.part.now) + 1

abbrev pub decreases-write_sub : goal.decreases-write_sub
decreases-write_sub l = 7 * height l.tree.now + 7

abbrev pub invariant-write_operator-loop-part : goal.invariant-write_operator-loop-part
invariant-write_operator-loop-part l =
    AreParts l.plan l.mode.spaces l.mode.op (take l.part-index l.parts) l.items l.rest l.item l.child
    l.fn.arranger l.arranger

abbrev pub invariant-write_list-loop-element : goal.invariant-write_list-loop-element
invariant-write_list-loop-element l =
    (place : ℕ) → AreElementsLeft l.plan l.flat place l.list l.elements l.rest l.unfinished l.number
    l.fn.arranger l.arranger

abbrev pub decreases-write_list-loop-element : goal.decreases-write_list-loop-element
decreases-write_list-loop-element l = length l.rest
