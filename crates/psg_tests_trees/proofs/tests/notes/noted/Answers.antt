use Rattle.psg_tests_trees.proofs.tests.notes.noted.Goals as goal

pub counted-requires-clause-formed : goal.counted-requires-clause-formed
counted-requires-clause-formed c =
    (c.args.kind, c.well_formed-formed.ensures.0 c.if-not-formed.false)
