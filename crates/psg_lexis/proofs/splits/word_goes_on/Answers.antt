use Rattle.std.proofs.Common.{sym, ap, ◌∙◌}
use Rattle.psg_terms.specs.Words.{goes_on_word}
use Rattle.psg_lexis.specs.Classes.{begins_by}
use Rattle.psg_lexis.proofs.splits.word_goes_on.Goals as goal

pub returns-in-Some : goal.returns-in-Some
returns-in-Some c = c.goes_on_word.ensures ∙ ap (begins_by goes_on_word) (sym c.in-Some.ensures.first.characters)

pub returns-in-None : goal.returns-in-None
returns-in-None c = ap (begins_by goes_on_word) (sym c.in-None.ensures.none)
