use Rattle.std.proofs.Common.{refl}
use Rattle.psg_tests_asking.proofs.tests.questions.reply_told.Goals as goal

pub reply_to-reply-requires : goal.reply_to-reply-requires
reply_to-reply-requires g c = record { program = c.requires.program; question = refl }
