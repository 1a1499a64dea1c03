use Rattle.std.proofs.Common.{◌∙◌, ap, ◌++◌, ◌∷◌, []}
use Rattle.psg_class.specs.Texts.{tokens_of}
use Rattle.psg_stop.proofs.Rows.{tokens_push}
use Rattle.psg_stop.proofs.stopping.with_token.Goals as goal

pub returns : goal.returns
returns c = ap tokens_of c.in_ok-push.ensures.items ∙ tokens_push c.in_ok-row.row.items _ ∙ ap (λ ts. ts ++ c.args.token ∷ []) c.in_ok-row.ensures
