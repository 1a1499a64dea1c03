use Rattle.psg_tests_languages.proofs.tests.ground.+put_variables.Given as goal

abbrev pub decreases-put_variables : goal.decreases-put_variables
decreases-put_variables l = l.deep
