use Rattle.std.proofs.Common.{◌≡◌, ◌++◌, ◌+◌, ◌*◌, List, false, length, take}
use Rattle.psg_grammar.specs.Fragments.{children_of, operator}
use Rattle.psg_tree.specs.Shapes.{height, list_of, with_part, with_parts}
use Rattle.psg_recover.specs.declared.finding.Finding.{Finding}
use Rattle.psg_recover.specs.Spotted.{IsSpotsOf}
use Rattle.psg_recover.specs.TextPlaces.{Read}
use Rattle.psg_lint.proofs.OpenLaws.{ElementsTo, PartsTo}
use Rattle.psg_lint.proofs.open_places.+opens.Given as goal

abbrev pub decreases-tell_part : goal.decreases-tell_part
decreases-tell_part g l = 3 * height (with_part (operator 0) l.part.now)

abbrev pub decreases-tell_parts : goal.decreases-tell_parts
decreases-tell_parts g l = 3 * height (with_parts (operator 0) l.parts.now) + 1

abbrev pub decreases-tell_elements : goal.decreases-tell_elements
decreases-tell_elements g l = 3 * height (list_of 0 l.elements.now false) + 1

abbrev pub decreases-tell_node : goal.decreases-tell_node
decreases-tell_node g l = 3 * height l.tree.now + 2

abbrev pub invariant-tell_parts-loop-part : goal.invariant-tell_parts-loop-part
invariant-tell_parts-loop-part g l = (l.children ≡ length (children_of (with_parts (operator 0) (take l.part-index l.parts))))
    × ((r : Read) → IsSpotsOf l.own.judged.spots r → (told : List Finding) × (l.found.items ≡ l.fn.found.items ++ told)
    × PartsTo l.own.judged.definition.now l.own.judged.tree.now r l.path l.parts l.part-index l.children told)

abbrev pub invariant-tell_elements-loop-place : goal.invariant-tell_elements-loop-place
invariant-tell_elements-loop-place g l = (r : Read) → IsSpotsOf l.own.judged.spots r → (told : List Finding)
    × (l.found.items ≡ l.fn.found.items ++ told)
    × ElementsTo l.own.judged.definition.now l.own.judged.tree.now r l.path l.elements l.place told
