use Rattle.std.proofs.Common.{sym, ◌∙◌}
use Rattle.psg_asking.proofs.PutLaws.{is_refusal}
use Rattle.psg_session.specs.Views.{reply_of}
use Rattle.psg_asking.proofs.putting.text_after.Goals as goal

pub returns-in-Some : goal.returns-in-Some
returns-in-Some c = is_refusal (reply_of c.args.made.now.reply) _ (sym c.in-Some.is ∙ c.refusal_in.ensures)

pub text_here-requires : goal.text_here-requires
text_here-requires c = c.requires (sym c.in-None.is ∙ c.refusal_in.ensures)

pub returns-in_ok-text-in-None : goal.returns-in_ok-text-in-None
returns-in_ok-text-in-None c = (sym c.in-None.is ∙ c.refusal_in.ensures, c.in_ok-text-in-None.ensures)
