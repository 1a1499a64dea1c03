use Rattle.psg_tests_pointing.proofs.tests.put_in.Given as goal

abbrev pub ghosts-put : goal.ghosts-put
ghosts-put a = record { name = a.ledger.name; parts = a.ledger.parts }
