use Rattle.psg_unparse.proofs.Tokens.{last_is, none_last}
use Rattle.psg_layout.proofs.sheet.last_char.Goals as goal

pub returns-in-Some : goal.returns-in-Some
returns-in-Some c = last_is _ _ _ _ c.in-Some.ensures.last

pub returns-in-None : goal.returns-in-None
returns-in-None c = none_last _ _ c.in-None.ensures.none
