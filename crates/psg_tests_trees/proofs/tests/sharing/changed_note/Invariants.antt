use Rattle.psg_tests_trees.proofs.tests.sharing.changed_note.Given as goal

abbrev pub ghosts-exchanged : goal.ghosts-exchanged
ghosts-exchanged a = record { name = a.ledger.name; parts = a.ledger.parts }
