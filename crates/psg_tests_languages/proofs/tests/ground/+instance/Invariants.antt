use Rattle.psg_tests_languages.proofs.tests.ground.+instance.Given as goal

abbrev pub decreases-instance : goal.decreases-instance
decreases-instance l = l.deep
