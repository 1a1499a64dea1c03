use Rattle.std.proofs.Common.{sym, refl, ap, ◌∙◌, true≢false}
use Rattle.std.specs.Prelude.{option_copied}
use Rattle.std.proofs.lemmas.Option.{none-some}
use Rattle.psg_session.proofs.saved.is_new.Goals as goal

pub returns-in-Some : goal.returns-in-Some
returns-in-Some c = (
  (λ t. absurd (true≢false (sym t))),
  (λ none. absurd (none-some _ (sym none ∙ sym c.saved_named.ensures ∙ ap option_copied c.in-Some.is))),
)

pub returns-in-None : goal.returns-in-None
returns-in-None c = ((λ t. sym c.saved_named.ensures ∙ ap option_copied c.in-None.is), (λ none. refl))
