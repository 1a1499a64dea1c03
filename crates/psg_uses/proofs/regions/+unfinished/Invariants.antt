use Rattle.std.proofs.Common.{◌≡◌, ◌+◌, ◌*◌, drop, false}
use Rattle.std.specs.List.{list_any}
use Rattle.psg_grammar.specs.Fragments.{operator}
use Rattle.psg_tree.specs.Shapes.{with_part, with_parts, list_of, height}
use Rattle.psg_uses.specs.ByParts.{unfinished_below, unfinished_part}
use Rattle.psg_uses.proofs.regions.+unfinished.Given as goal

abbrev pub decreases-is_unfinished_below : goal.decreases-is_unfinished_below
decreases-is_unfinished_below l = 4 * height l.tree.now + 3

abbrev pub decreases-some_element : goal.decreases-some_element
decreases-some_element l = 4 * height (list_of 0 l.elements.now false) + 1

abbrev pub decreases-is_unfinished_part : goal.decreases-is_unfinished_part
decreases-is_unfinished_part l = 4 * height (with_part (operator 0) l.part.now)

abbrev pub decreases-some_part : goal.decreases-some_part
decreases-some_part l = 4 * height (with_parts (operator 0) l.parts.now) + 1

abbrev pub decreases-is_unfinished : goal.decreases-is_unfinished
decreases-is_unfinished l = 4 * height l.tree.now + 2

abbrev pub invariant-some_element-loop-place : goal.invariant-some_element-loop-place
invariant-some_element-loop-place l =
    list_any (unfinished_below l.known.definition.now l.space) (drop l.place l.elements)
    ≡ list_any (unfinished_below l.known.definition.now l.space) l.elements

abbrev pub invariant-some_part-loop-place : goal.invariant-some_part-loop-place
invariant-some_part-loop-place l = list_any (unfinished_part l.known.definition.now l.space) (drop l.place l.parts)
    ≡ list_any (unfinished_part l.known.definition.now l.space) l.parts
