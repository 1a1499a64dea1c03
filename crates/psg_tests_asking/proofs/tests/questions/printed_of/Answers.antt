use Rattle.std.proofs.Common.{sym, subst}
use Rattle.psg_grammar.specs.Sound.{IsSound}
use Rattle.psg_tests_asking.proofs.tests.questions.printed_of.Goals as goal

pub unparse-requires : goal.unparse-requires
unparse-requires c =
    record { sound = subst IsSound (sym c.definition-definition.ensures.same) c.definition-definition.ensures.sound }
