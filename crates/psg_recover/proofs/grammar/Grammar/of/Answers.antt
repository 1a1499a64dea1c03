use Rattle.std.proofs.Common.{subst, sym}
use Rattle.psg_grammar.specs.Sound.{IsSound}
use Rattle.psg_recover.proofs.QuietSound.{quiet_sound}
use Rattle.psg_recover.proofs.grammar.Grammar.of.Goals as goal

pub of-requires : goal.of-requires
of-requires c = subst IsSound (sym c.in_ok-own.ensures) (quiet_sound c.args.definition.now c.requires.sound)
