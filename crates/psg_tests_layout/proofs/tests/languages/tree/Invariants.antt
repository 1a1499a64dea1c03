use Rattle.psg_tests_layout.proofs.tests.languages.tree.Given as goal

abbrev pub ghosts-counted : goal.ghosts-counted
ghosts-counted a = record { name = a.ledger.name; parts = a.ledger.parts }
