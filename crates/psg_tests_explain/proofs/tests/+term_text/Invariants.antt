use Rattle.psg_tests_explain.proofs.tests.+term_text.Given as goal

abbrev pub decreases-term_text : goal.decreases-term_text
decreases-term_text l = l.deep
