use Rattle.std.proofs.Common.{sym, subst}
use Rattle.psg_grammar.specs.Sound.{IsSound}
use Rattle.psg_tui.proofs.opening.text_in.Goals as goal

pub unparse-requires : goal.unparse-requires
unparse-requires g c = record { sound = subst IsSound (sym c.definition.ensures.same) c.definition.ensures.sound }
