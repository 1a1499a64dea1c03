use Rattle.psg_tests_server.proofs.tests.played.Given as goal

abbrev pub ghosts-counted : goal.ghosts-counted
ghosts-counted a = record { name = a.ledger.name; parts = a.ledger.parts }
