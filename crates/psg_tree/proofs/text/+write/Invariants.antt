use Rattle.std.proofs.Common.{◌≡◌, ◌+◌, ◌*◌, ◌++◌, take, drop, codes, false, string_bytes}
use Rattle.psg_grammar.specs.Fragments.{operator}
use Rattle.psg_tree.specs.Shapes.{with_part, with_parts, list_of, height}
use Rattle.psg_tree.specs.AbstractText.{inner}
use Rattle.psg_tree.proofs.Texts.{tail_text}
use Rattle.psg_tree.proofs.text.+write.Given as goal

abbrev pub decreases-write_part : goal.decreases-write_part
decreases-write_part l = 3 * height (with_part (operator 0) l.part.now)

abbrev pub decreases-write_operator : goal.decreases-write_operator
decreases-write_operator l = 3 * height (with_parts (operator 0) l.parts.now) + 1

abbrev pub decreases-write_list : goal.decreases-write_list
decreases-write_list l = 3 * height (list_of 0 l.elements.now false) + 1

abbrev pub decreases-write_tree : goal.decreases-write_tree
decreases-write_tree l = 3 * height l.tree.now + 2

abbrev pub invariant-write_operator-loop-i : goal.invariant-write_operator-loop-i
invariant-write_operator-loop-i l = string_bytes l.out ≡ string_bytes l.fn.out ++ inner l.definition (with_parts (operator l.op) (take l.i l.parts))

abbrev pub invariant-write_list-loop-i : goal.invariant-write_list-loop-i
invariant-write_list-loop-i l = string_bytes l.out ++ tail_text l.definition l.i (drop l.i l.elements) l.unfinished ≡ string_bytes l.fn.out ++ (codes "[" ++ inner l.definition (list_of 0 l.elements l.unfinished))
