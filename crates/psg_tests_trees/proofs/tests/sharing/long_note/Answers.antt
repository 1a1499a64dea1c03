use Rattle.psg_grammar.specs.declared.types.Kind.TheVariants as kinds
use Rattle.psg_tests_trees.proofs.tests.sharing.long_note.Goals as goal

pub noted-requires-clause-formed : goal.noted-requires-clause-formed
noted-requires-clause-formed c =
    (kinds.List 0, c.well_formed-formed.ensures.0 c.if-not-formed.false)
