use Rattle.psg_tests_links.proofs.tests.said.Given as goal

abbrev pub ghosts-read : goal.ghosts-read
ghosts-read a = record { name = a.ledger.name; parts = a.ledger.parts }
