use Rattle.psg_tests_trees.proofs.tests.notes.noted.Given as goal

abbrev pub ghosts-counted : goal.ghosts-counted
ghosts-counted a = record { name = a.ledger.name; parts = a.ledger.parts }
