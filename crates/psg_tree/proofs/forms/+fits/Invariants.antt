use Rattle.std.proofs.Common.{◌↔◌, ◌+◌, ◌*◌, ◌≤◌, length, take, drop, false}
use Rattle.std.specs.List.{AllByRecursion}
use Rattle.psg_grammar.specs.declared.types.Kind.TheVariants as kinds
use Rattle.psg_grammar.specs.Fragments.{operator}
use Rattle.psg_grammar.specs.Lookups.{part_items}
use Rattle.psg_grammar.specs.WellFormed.{WellFormed}
use Rattle.psg_tree.specs.Shapes.{with_part, with_parts, list_of, height}
use Rattle.psg_tree.specs.Forms.{PartsFit}
use Rattle.psg_tree.proofs.forms.+fits.Given as goal

abbrev pub decreases-tree_fits : goal.decreases-tree_fits
decreases-tree_fits l = 6 * height l.tree.now + 5

abbrev pub decreases-part_fits : goal.decreases-part_fits
decreases-part_fits l = 6 * height (with_part (operator 0) l.part.now)

abbrev pub decreases-next_part : goal.decreases-next_part
decreases-next_part l = 6 * height (with_parts (operator 0) l.parts.now) + 1

abbrev pub decreases-parts_fit : goal.decreases-parts_fit
decreases-parts_fit l = 6 * height (with_parts (operator 0) l.parts.now) + 2

abbrev pub decreases-operator_fits : goal.decreases-operator_fits
decreases-operator_fits l = 6 * height (with_parts (operator 0) l.parts.now) + 3

abbrev pub decreases-elements_fit : goal.decreases-elements_fit
decreases-elements_fit l = 6 * height (list_of 0 l.elements.now false) + 2

abbrev pub decreases-list_fits : goal.decreases-list_fits
decreases-list_fits l = 6 * height (list_of 0 l.elements.now false) + 3

abbrev pub decreases-well_formed : goal.decreases-well_formed
decreases-well_formed l = 6 * height l.tree.now + 4

abbrev pub invariant-parts_fit-loop-item : goal.invariant-parts_fit-loop-item
invariant-parts_fit-loop-item l =
    (l.at ≤ length l.parts) × (PartsFit l.definition l.parts (part_items l.items) ↔ PartsFit l.definition (drop l.at l.parts) (part_items (drop l.item-index l.items)))

abbrev pub invariant-elements_fit-loop-element : goal.invariant-elements_fit-loop-element
invariant-elements_fit-loop-element l = AllByRecursion (λ e. WellFormed l.definition e (kinds.Phylum l.phylum)) (take l.element-index l.elements)
