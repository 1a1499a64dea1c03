use Rattle.std.proofs.Common.{take}
use Rattle.psg_grammar.specs.Fragments.{operator}
use Rattle.psg_specimen.specs.Patterns.{parts_on, ArePatternsOf}
use Rattle.psg_specimen.proofs.PatternLaws.{IsGrown}
use Rattle.psg_specimen.proofs.SpecimenSizes.{part_size, size}
use Rattle.psg_specimen.proofs.patterns.+patterns.Given as goal

abbrev pub decreases-pattern_of : goal.decreases-pattern_of
decreases-pattern_of l = size l.specimen.now

abbrev pub decreases-add_part : goal.decreases-add_part
decreases-add_part l = part_size l.part.now

abbrev pub invariant-pattern_of-loop-part : goal.invariant-pattern_of-loop-part
invariant-pattern_of-loop-part l = IsGrown l.definition (parts_on (operator l.op) (take l.part-index l.part-items)) l.children.items

abbrev pub invariant-pattern_of-loop-element : goal.invariant-pattern_of-loop-element
invariant-pattern_of-loop-element l = ArePatternsOf l.definition (take l.element-index l.element-items) l.own.items
