use Rattle.psg_tests_explain.proofs.tests.explained_of.Given as goal

abbrev pub ghosts-both_counted : goal.ghosts-both_counted
ghosts-both_counted a = record { name = a.ledger.name; parts = a.ledger.parts }
