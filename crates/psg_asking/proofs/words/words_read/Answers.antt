use Rattle.std.proofs.Common.{sym, ◌∙◌}
use Rattle.psg_session.specs.Views.{reply_of}
use Rattle.psg_asking.proofs.WordLaws.{words_refused, told_words}
use Rattle.psg_asking.proofs.words.words_read.Goals as goal

pub returns-in-Some : goal.returns-in-Some
returns-in-Some c =
    words_refused (reply_of c.args.reply.now) c.in-Some.refusal (sym c.in-Some.is ∙ c.refusal_in.ensures)

pub returns-in_ok-words-in-None : goal.returns-in_ok-words-in-None
returns-in_ok-words-in-None c =
    told_words _ (reply_of c.args.reply.now) (sym c.in-None.is ∙ c.refusal_in.ensures) (c.as_str.ensures.value ∙ c.in_ok-text-in-None.ensures) _
    c.in_ok-words-in-None.ensures
