use Rattle.psg_tests_links.proofs.tests.renamed.Given as goal

abbrev pub ghosts-read : goal.ghosts-read
ghosts-read a = record { name = a.ledger.name; parts = a.ledger.parts }

abbrev pub ghosts-tried : goal.ghosts-tried
ghosts-tried a = record { name = a.ledger.name; parts = a.ledger.parts }
