use Rattle.psg_tests_trees.proofs.tests.sharing.long_note.Given as goal

abbrev pub ghosts-noted : goal.ghosts-noted
ghosts-noted a = record { name = a.ledger.name; parts = a.ledger.parts }
