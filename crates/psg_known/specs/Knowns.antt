-- A definition with the spaces in which its phyla declare.
use Rattle.psg_grammar.specs.Sound.{IsSound}
use Rattle.psg_eval.specs.SpaceTables.{AreDeclaringSpaces}
use Rattle.psg_known.specs.declared.known.Known.{Known}

pub record IsKnown (k : Known) : Type 0 where
  pub sound : IsSound k.definition.now
  pub spaces : AreDeclaringSpaces k.definition.now k.spaces.now
