use Rattle.psg_tests_explain.proofs.tests.says.Given as goal

abbrev pub ghosts-counted : goal.ghosts-counted
ghosts-counted g a = record { name = a.ledger.name; parts = a.ledger.parts }
