use Rattle.psg_tests_pointing.proofs.tests.told_in.Given as goal

abbrev pub ghosts-told : goal.ghosts-told
ghosts-told a = record { name = a.ledger.name; parts = a.ledger.parts }
