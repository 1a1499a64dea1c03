use Rattle.std.proofs.Common.{sym, ap, ◌∙◌}
use Rattle.psg_terms.specs.Words.{starts_word}
use Rattle.psg_lexis.specs.Classes.{begins_by}
use Rattle.psg_lexis.proofs.splits.word_begins.Goals as goal

pub returns-in-Some : goal.returns-in-Some
returns-in-Some c = c.starts_word.ensures ∙ ap (begins_by starts_word) (sym c.in-Some.ensures.first.characters)

pub returns-in-None : goal.returns-in-None
returns-in-None c = ap (begins_by starts_word) (sym c.in-None.ensures.none)
