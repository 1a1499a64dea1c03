use Rattle.std.proofs.Common.{◌≡◌, ℕ, List, subst}
use Rattle.std.specs.Prelude.{string_bytes}
use Rattle.psg_grammar.specs.Legal.{IsCompletable}
use Rattle.psg_session.specs.Replies.{feed_all}
use Rattle.psg_session.specs.Sessions.{state_of}
use Rattle.psg_run.specs.Generated.{FiveLines}
use Rattle.psg_run.proofs.Summing.{summed}
use Rattle.psg_run.proofs.generating.summary.Goals as goal

pub returns : goal.returns
returns c =
    subst (λ n. (lines : List (List ℕ)) × FiveLines c.args.session.now.language (IsCompletable c.args.session.now.language)
    (state_of c.args.session.now.editor).opened n lines × (string_bytes c.in_ok-text.text ≡ feed_all lines)) c.in_ok-operators.ensures
    (summed c.args.session.now.language c.args.session.now.editor c.in_ok-found.found c.in_ok-operators.operators
    (string_bytes c.in_ok-text.text) c.in_ok-found.ensures c.in_ok-text.ensures)
