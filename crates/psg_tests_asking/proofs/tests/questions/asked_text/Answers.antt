use Rattle.std.proofs.Common.{sym, subst}
use Rattle.psg_grammar.specs.Sound.{IsSound}
use Rattle.psg_tests_asking.proofs.tests.questions.asked_text.Goals as goal

pub unparse-requires : goal.unparse-requires
unparse-requires c =
    record { sound = subst IsSound (sym c.definition.ensures.same) c.definition.ensures.sound }
