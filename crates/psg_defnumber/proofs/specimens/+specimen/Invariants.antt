use Rattle.std.proofs.Common.{take}
use Rattle.psg_defcheck.proofs.TreeLaws.{tree_measure, part_measure, parts_measure, elements_measure}
use Rattle.psg_defnumber.specs.Fitting.{IsMade, part_terms, element_terms, PartsFit, ElementsFit}
use Rattle.psg_grammar.specs.declared.types.Kind.TheVariants as kinds
use Rattle.psg_defnumber.specs.Placing.{ArePartsAt, AreElementsAt}
use Rattle.psg_defnumber.specs.Sorts.{StaysSorted}
use Rattle.psg_defnumber.proofs.FitLaws.{items_now}
use Rattle.psg_defnumber.proofs.specimens.+specimen.Given as goal

abbrev pub decreases-part : goal.decreases-part
decreases-part l = part_measure l.written.now

abbrev pub decreases-parts : goal.decreases-parts
decreases-parts l = parts_measure l.written.now

abbrev pub decreases-elements : goal.decreases-elements
decreases-elements l = elements_measure l.written.now

abbrev pub decreases-specimen : goal.decreases-specimen
decreases-specimen l = tree_measure l.written.now

abbrev pub invariant-elements-loop-tree : goal.invariant-elements-loop-tree
invariant-elements-loop-tree l =
    IsMade l.fn.definition l.fn.known.entries l.known.entries (element_terms l.made.items) (λ full names. ElementsFit full names l.fn.phylum l.made.items (take l.tree-index l.written))
    × StaysSorted l.checked l.fn.known.entries l.known.entries (λ sorts. AreElementsAt l.checked sorts (kinds.Phylum l.fn.phylum) l.written)

abbrev pub invariant-parts-loop-i : goal.invariant-parts-loop-i
invariant-parts-loop-i l =
    IsMade l.definition l.fn.known.entries l.known.entries (part_terms l.made.items) (λ full names. PartsFit full names (items_now (take l.i l.items)) l.made.items (take l.i l.written))
    × StaysSorted l.checked l.fn.known.entries l.known.entries (λ sorts. ArePartsAt l.checked sorts (items_now l.items) l.written)
