use Rattle.std.proofs.Common.{sym, subst}
use Rattle.psg_grammar.specs.Sound.{IsSound}
use Rattle.psg_look.proofs.KindLaws.{kind_there}
use Rattle.psg_look.proofs.kind_in.Goals as goal

pub kind_named-requires : goal.kind_named-requires
kind_named-requires c = subst IsSound (sym c.definition-definition.ensures.same) c.definition-definition.ensures.sound

pub returns-in-Some : goal.returns-in-Some
returns-in-Some c = kind_there _ _ c.in-Some.kind _ c.definition-definition.ensures.same c.in-Some.ensures.found
