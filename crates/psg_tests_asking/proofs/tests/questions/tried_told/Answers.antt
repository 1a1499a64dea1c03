use Rattle.psg_tests_asking.proofs.tests.questions.tried_told.Goals as goal

pub tried-made-requires : goal.tried-made-requires
tried-made-requires g c = c.requires.program
