use Rattle.psg_tests_asking.proofs.tests.questions.asked_in.Given as goal

abbrev pub ghosts-asked : goal.ghosts-asked
ghosts-asked a = record { name = a.ledger.name; parts = a.ledger.parts }
