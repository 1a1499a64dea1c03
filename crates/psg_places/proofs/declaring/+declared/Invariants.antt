use Rattle.std.proofs.Common.{◌+◌, ◌*◌, take, false}
use Rattle.psg_grammar.specs.Fragments.{operator}
use Rattle.psg_tree.specs.Shapes.{with_part, with_parts, list_of, height}
use Rattle.psg_places.proofs.ListingLaws.{DeclaredTo, ElementsDeclaredTo}
use Rattle.psg_places.proofs.declaring.+declared.Given as goal

abbrev pub decreases-pass_declared_part : goal.decreases-pass_declared_part
decreases-pass_declared_part l = 4 * height (with_part (operator 0) l.part.now)

abbrev pub decreases-pass_declared_parts : goal.decreases-pass_declared_parts
decreases-pass_declared_parts l = 4 * height (with_parts (operator 0) l.parts.now) + 1

abbrev pub decreases-pass_declared_elements : goal.decreases-pass_declared_elements
decreases-pass_declared_elements l = 4 * height (list_of 0 l.elements.now false) + 1

abbrev pub decreases-pass_declared : goal.decreases-pass_declared
decreases-pass_declared l = 4 * height l.tree.now + 2

abbrev pub decreases-pass_fixed : goal.decreases-pass_fixed
decreases-pass_fixed l = 4 * height l.tree.now + 3

abbrev pub invariant-pass_declared_parts-loop-i : goal.invariant-pass_declared_parts-loop-i
invariant-pass_declared_parts-loop-i l =
    DeclaredTo l.keeping.definition.now l.keeping.keep.now l.path l.op (take l.i l.parts) l.names l.children l.fn.listing
    l.listing

abbrev pub invariant-pass_declared_elements-loop-i : goal.invariant-pass_declared_elements-loop-i
invariant-pass_declared_elements-loop-i l =
    ElementsDeclaredTo l.keeping.definition.now l.keeping.keep.now l.path (take l.i l.elements) l.fn.listing l.listing
