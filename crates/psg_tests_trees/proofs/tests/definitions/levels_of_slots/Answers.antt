use Rattle.psg_grammar.specs.declared.types.Kind.TheVariants as kinds
use Rattle.psg_tests_trees.proofs.tests.definitions.levels_of_slots.Goals as goal

pub least_level-requires-clause-slot : goal.least_level-requires-clause-slot
least_level-requires-clause-slot g c = (kinds.Phylum 0, c.in_ok-left.ensures.first)

pub least_level-requires-2-clause-slot : goal.least_level-requires-2-clause-slot
least_level-requires-2-clause-slot g c = (kinds.Phylum 0, c.in_ok-left.ensures.last)
