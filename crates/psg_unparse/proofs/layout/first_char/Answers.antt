use Rattle.std.proofs.Common.{length, sym, ap, ◌∙◌}
use Rattle.psg_lexis.proofs.Runs.{no_chars}
use Rattle.psg_unparse.proofs.Tokens.{first_is, none_first}
use Rattle.psg_unparse.proofs.layout.first_char.Goals as goal

pub returns-in-Some : goal.returns-in-Some
returns-in-Some c = first_is _ _ _ c.utf8.text (sym c.chars.ensures.rest ∙ c.in-Some.ensures.steps.0)

pub returns-in-None : goal.returns-in-None
returns-in-None c = none_first _ (no_chars _ (ap length (sym c.chars.ensures.rest) ∙ c.in-None.ensures.steps.0.0))
